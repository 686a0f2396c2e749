pub mod Turns
pub mod Good
pub mod Whole
pub mod VisitLaws
pub mod Led
pub mod Fours
