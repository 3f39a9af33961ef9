pub mod Drive
pub mod Cases
