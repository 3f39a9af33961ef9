pub mod Bounds
pub mod Lengths
