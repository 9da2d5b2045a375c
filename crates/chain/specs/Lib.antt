pub mod Chain
pub mod Pairing
pub mod Potentials
pub mod Faults
pub mod Lines
pub mod Meaning
pub mod Coupling
pub mod Registers
