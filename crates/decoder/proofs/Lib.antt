pub mod Endings
pub mod RuleLaws
pub mod FinishLaws
pub mod StoodLaws
pub mod DecodeLaws
pub mod Decided
