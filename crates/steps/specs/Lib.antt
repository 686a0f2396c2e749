pub mod Records
pub mod Moved
pub mod Steps
pub mod Ready
pub mod Rows
