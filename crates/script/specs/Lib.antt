pub mod Answers
pub mod Playing
pub mod Lines
pub mod Report
pub mod Session
