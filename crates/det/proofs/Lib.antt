pub mod Parts
pub mod Ten
pub mod Doubled
pub mod Sign
