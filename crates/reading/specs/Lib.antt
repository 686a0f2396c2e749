pub mod Reading
pub mod Siblings
