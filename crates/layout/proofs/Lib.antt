pub mod Roles
pub mod Contents
pub mod Played
pub mod Laws
pub mod Tables
pub mod Within
pub mod ByNumber
