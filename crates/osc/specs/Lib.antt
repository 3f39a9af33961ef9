pub mod Osc
pub mod Cases
