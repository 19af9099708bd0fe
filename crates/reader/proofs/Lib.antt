pub mod Growing
pub mod Lines
pub mod Looking
