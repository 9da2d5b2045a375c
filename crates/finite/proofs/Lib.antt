pub mod Sums
pub mod Search
pub mod Lists
pub mod Quotients
