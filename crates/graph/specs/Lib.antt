pub mod Orders
pub mod Formed
pub mod Execution
