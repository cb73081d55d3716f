pub mod Buckets
pub mod Rooted
