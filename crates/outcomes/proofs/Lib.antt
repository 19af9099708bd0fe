pub mod Comparing
pub mod Events
pub mod Final
pub mod Flow
pub mod Limits
pub mod Sameness
