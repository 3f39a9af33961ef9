pub mod Inside
pub mod Copied
