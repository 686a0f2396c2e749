pub mod Laws
pub mod Sample
pub mod Decided
pub mod Lookups
pub mod Fours
pub mod Checks
pub mod Orders
