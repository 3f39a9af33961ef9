pub mod Oscillators
