-- What a run of answers tells of the arrays that fit it.
pub mod Know
pub mod Told
