pub mod Tests
pub mod Small
