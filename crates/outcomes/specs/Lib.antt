pub mod Values
pub mod Source
pub mod Outcomes
