pub mod Spread
pub mod Order
pub mod Gather
pub mod Answers
