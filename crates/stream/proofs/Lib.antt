pub mod Fields
pub mod Sizes
