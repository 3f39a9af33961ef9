pub mod Math
pub mod Map
pub mod Coefficients
pub mod Cases
pub mod Zero
