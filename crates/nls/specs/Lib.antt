pub mod Marks
pub mod Scan
pub mod Stream
pub mod Parts
pub mod Reading
pub mod Turns
pub mod Judging
pub mod Samples
