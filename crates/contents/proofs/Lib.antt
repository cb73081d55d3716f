pub mod Named
pub mod Writing
