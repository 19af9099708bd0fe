pub mod Compiled
pub mod Faithful
pub mod Notation
