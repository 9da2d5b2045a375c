mod Spans
pub mod Reading
