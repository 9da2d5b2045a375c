pub mod Fitting
pub mod Splitting
pub mod Faults
pub mod Lines
pub mod Meaning
