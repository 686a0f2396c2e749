pub mod Finishing
pub mod Ending
pub mod Rules
pub mod Body
pub mod Calls
