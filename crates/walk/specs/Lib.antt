pub mod Scans
pub mod Visits
pub mod Fours
