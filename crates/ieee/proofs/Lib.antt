pub mod Tests
pub mod Value
pub mod Build
pub mod Whole
pub mod Read
pub mod Cast
