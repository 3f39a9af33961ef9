pub mod Peak
