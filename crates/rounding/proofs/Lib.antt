pub mod Laws
pub mod Phase
