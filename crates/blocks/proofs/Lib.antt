pub mod Near
pub mod Links
pub mod Descent
pub mod Growing
