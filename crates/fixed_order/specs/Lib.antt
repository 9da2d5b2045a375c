pub mod Order
pub mod View
pub mod Meaning
pub mod Laws
