pub mod Known
pub mod Computed
pub mod Asked
pub mod Rejected
pub mod Misplaced
