pub mod Rows
pub mod View
pub mod Triples
pub mod Reading
pub mod Soundness
pub mod Bounds
