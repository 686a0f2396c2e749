-- The scan as a machine: its runs, what its table of marks holds, and the invariant that every move and answer keeps.
pub mod Run
pub mod Table
pub mod Split
pub mod Cover
pub mod Push
pub mod Steps
pub mod Start
pub mod Blocks
