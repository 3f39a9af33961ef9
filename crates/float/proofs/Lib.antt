pub mod Order
pub mod Euclid
pub mod Remainder
