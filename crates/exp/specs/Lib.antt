pub mod Exp
pub mod Cases
