pub mod Creating
pub mod Deleting
pub mod Listing
