pub mod Relations
pub mod Computed
pub mod Bounded
pub mod Verdicts
pub mod Counting
