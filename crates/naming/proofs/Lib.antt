pub mod Buckets
pub mod Filed
pub mod Rooted
pub mod Differ
pub mod Reached
