pub mod Passes
pub mod Zero
pub mod Whole
