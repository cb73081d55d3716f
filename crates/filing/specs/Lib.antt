pub mod Located
pub mod Edited
pub mod Paged
