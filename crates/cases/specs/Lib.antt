pub mod Charts
pub mod Files
pub mod Cases
pub mod Scripts
