pub mod Filling
pub mod Passing
pub mod Walk
