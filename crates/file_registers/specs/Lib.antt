pub mod Outcomes
pub mod Faults
pub mod Registers
pub mod Making
