pub mod Power
pub mod Above
