pub mod Full
pub mod Fits
pub mod Deleted
