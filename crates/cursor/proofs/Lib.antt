pub mod Ahead
pub mod Looking
