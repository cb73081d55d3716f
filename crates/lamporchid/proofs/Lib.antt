pub mod Packing
pub mod Bounds
pub mod Cased
pub mod Told
pub mod Parting
pub mod Sharing
