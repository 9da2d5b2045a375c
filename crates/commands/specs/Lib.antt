pub mod Names
pub mod Parts
pub mod Reading
pub mod Texts
