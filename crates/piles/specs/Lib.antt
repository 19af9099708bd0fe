pub mod Names
pub mod Piled
pub mod Laws
