pub mod Random
pub mod Cases
