pub mod Pieces
pub mod Table
pub mod Texts
pub mod Answer
