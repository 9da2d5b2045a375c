pub mod Sums
pub mod Search
