pub mod Passes
pub mod Looks
pub mod Tells
pub mod Laws
pub mod Ended
pub mod Decided
