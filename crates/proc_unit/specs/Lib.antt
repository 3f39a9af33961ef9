pub mod Runs
pub mod Fit
