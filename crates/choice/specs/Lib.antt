pub mod View
pub mod Gathering
pub mod Sides
pub mod Soundness
pub mod Reading
