pub mod Memories
pub mod Loads
