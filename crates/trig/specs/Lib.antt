pub mod Trig
pub mod Cases
