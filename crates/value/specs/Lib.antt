pub mod Modulators
