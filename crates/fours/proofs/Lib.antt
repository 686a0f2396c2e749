pub mod Laws
pub mod Decided
