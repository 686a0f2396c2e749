pub mod Header
pub mod File
pub mod Calls
pub mod Under
pub mod Samples
