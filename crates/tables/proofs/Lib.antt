pub mod Every
pub mod Shaped
pub mod Compared
pub mod Paged
pub mod Spares
