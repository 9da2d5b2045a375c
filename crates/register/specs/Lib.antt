pub mod Tables
pub mod Phases
pub mod Calls
pub mod Contents
pub mod Held
pub mod Settling
