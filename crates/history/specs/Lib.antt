pub mod Refusals
pub mod Calls
pub mod Rules
pub mod Bounding
pub mod Certificate
pub mod Promises
pub mod Lines
