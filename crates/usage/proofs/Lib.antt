pub mod Uses
pub mod Chained
