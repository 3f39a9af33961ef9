pub mod Planned
pub mod Rowed
