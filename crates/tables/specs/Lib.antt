pub mod Compared
pub mod OnPage
