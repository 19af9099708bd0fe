pub mod Meaning
pub mod Law
