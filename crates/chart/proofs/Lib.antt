pub mod Bounds
pub mod Cells
pub mod Starts
pub mod Telling
pub mod Carrying
pub mod Words
pub mod Bands
pub mod Claims
