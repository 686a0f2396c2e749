pub mod Puts
pub mod Lines
pub mod Laws
pub mod Drawn
pub mod Shows
pub mod Decided
