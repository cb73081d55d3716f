pub mod Naming
pub mod Paging
pub mod Finding
pub mod Editing
pub mod Drawing
pub mod Answers
