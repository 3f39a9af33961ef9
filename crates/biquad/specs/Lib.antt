pub mod Biquad
