pub mod Laws
pub mod Decided
mod Held
