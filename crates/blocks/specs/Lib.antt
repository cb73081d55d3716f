pub mod Plain
pub mod Narrow
