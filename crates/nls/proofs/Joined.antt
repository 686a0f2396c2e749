-- The machine's run is the scan of Counting, so that the counts hold of its stream; and the codes that its marks have.
pub mod Answers
pub mod Leads
pub mod Same
pub mod Visits
pub mod Machine
pub mod Planes
pub mod Codes
pub mod Whole
