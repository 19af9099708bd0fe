pub mod Sparing
pub mod Exchange
pub mod Exchanged
pub mod Spared
pub mod Points
