pub mod Log
pub mod Tanh
pub mod Cases
