pub mod Interchange
pub mod Modal
pub mod Modes
pub mod Groups
