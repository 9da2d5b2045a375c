pub mod Format
pub mod Kinds
pub mod Spans
pub mod Headers
pub mod Refusals
pub mod Lines
pub mod Reading
