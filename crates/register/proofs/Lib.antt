pub mod States
pub mod Values
pub mod Steps
pub mod Laying
pub mod Idle
pub mod Playing
pub mod Settled
pub mod Kept
