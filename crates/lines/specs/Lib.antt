pub mod Fields
pub mod Numerals
pub mod Reading
pub mod Texts
