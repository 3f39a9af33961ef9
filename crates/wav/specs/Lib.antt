pub mod Wav
pub mod Cases
