pub mod Stands
pub mod Moves
