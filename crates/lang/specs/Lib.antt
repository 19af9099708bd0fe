pub mod Numbering
pub mod Spelling
pub mod Strengths
