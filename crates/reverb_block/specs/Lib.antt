pub mod Lines
pub mod Reverb
