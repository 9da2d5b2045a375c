pub mod Words
pub mod Exits
pub mod Valid
pub mod Choices
pub mod Costs
pub mod Laws
pub mod Hausdorff
pub mod Registers
