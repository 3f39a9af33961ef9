pub mod ByNumber
