pub mod Rolls
pub mod Sums
