-- Which bits no array fits: the clash by the marks, that it is refused rightly and nothing else is, and the decoder that tests for it.
pub mod Most
pub mod Owed
pub mod Clash
pub mod Room
pub mod Apart
pub mod Fresh
pub mod Debt
pub mod Open
pub mod Enough
pub mod Refuse
pub mod Decide
pub mod Flag
pub mod ByCount
pub mod Decoder
pub mod Numbers
pub mod Only
