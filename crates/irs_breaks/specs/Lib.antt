pub mod Pairing
pub mod Laws
pub mod Findings
pub mod BreakLists
pub mod BreakTexts
pub mod Private
