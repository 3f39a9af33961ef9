pub mod Colors
