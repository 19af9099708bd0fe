pub mod Fitting
pub mod Formedness
pub mod Locations
