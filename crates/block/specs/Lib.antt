pub mod Bank
pub mod Iterate
pub mod Loop
pub mod Patch
