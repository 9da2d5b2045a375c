pub mod Views
pub mod Scan
