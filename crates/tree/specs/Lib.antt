pub mod Tree
pub mod Summaries
pub mod Filling
