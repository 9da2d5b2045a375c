pub mod Faults
pub mod Lines
pub mod Meaning
pub mod Reading
pub mod Registers
pub mod Soundness
