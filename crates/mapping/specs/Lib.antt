pub mod Kinds
pub mod Rule
pub mod Published
pub mod Laws
