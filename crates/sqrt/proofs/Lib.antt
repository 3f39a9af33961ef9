pub mod Squares
pub mod Twice
pub mod Scaled
pub mod Roots
