pub mod Order
pub mod Euclid
pub mod Single
pub mod Cases
pub mod Remainder
