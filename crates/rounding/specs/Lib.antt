pub mod Whole
pub mod Cases
