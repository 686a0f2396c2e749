pub mod Back
pub mod Undoing
