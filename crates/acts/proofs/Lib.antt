pub mod Creating
pub mod Deleting
pub mod Naming
pub mod Fitting
pub mod Refusing
pub mod Sound
pub mod Rooted
