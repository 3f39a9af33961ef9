pub mod Built
pub mod Needs
pub mod Good
pub mod Owners
pub mod Roles
pub mod Played
pub mod Contents
pub mod Tables
pub mod Counts
pub mod Laws
mod Cases
