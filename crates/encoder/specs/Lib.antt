pub mod Writing
pub mod Body
pub mod Sinks
pub mod Siblings
