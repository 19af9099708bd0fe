pub mod Bases
pub mod Agreement
pub mod Verdicts
pub mod Pairs
pub mod Bounds
