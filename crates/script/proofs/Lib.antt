pub mod Asking
pub mod Rows
pub mod Written
pub mod Halfway
