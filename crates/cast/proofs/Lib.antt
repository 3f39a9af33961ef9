pub mod Far
pub mod Narrow
pub mod Normal
pub mod Small
