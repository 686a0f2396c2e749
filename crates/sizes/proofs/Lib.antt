pub mod Laws
pub mod Checks
pub mod Tables
pub mod Decided
