pub mod Appending
pub mod Faithfulness
pub mod Held
pub mod Positions
pub mod Slots
