pub mod Envelope
pub mod Cases
