mod Judging
mod Alone
mod Joining
pub mod Laws
