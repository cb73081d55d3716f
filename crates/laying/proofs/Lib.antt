pub mod Blockwise
pub mod Rowwise
