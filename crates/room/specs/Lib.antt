pub mod Room
pub mod Ready
