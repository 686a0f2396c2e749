-- Precisions: what an answer notes, that a plane's end changes none, what the state says of them, and that the map is tight.
pub mod Noted
pub mod Answers
pub mod PlaneEnds
pub mod Holders
pub mod Seen
pub mod Turns
pub mod Rows
pub mod OwnBits
pub mod Before
pub mod ValueSteps
pub mod Greatest
pub mod Tight
