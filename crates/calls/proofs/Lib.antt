pub mod ByNumber
pub mod Players
