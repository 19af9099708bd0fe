pub mod Algebra
pub mod Rows
pub mod Closures
