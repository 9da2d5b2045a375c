pub mod Grids
pub mod Rows
pub mod Counts
