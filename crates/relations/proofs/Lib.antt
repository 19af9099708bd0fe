pub mod Bits
pub mod Counting
pub mod Every
pub mod Filling
pub mod Shown
pub mod Warshall
pub mod Chains
