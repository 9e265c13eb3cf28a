pub mod CodeLaws
pub mod WayLemmas
pub mod OffsetLaws
pub mod SameSets
pub mod FoundDays
pub mod MovedDays
pub mod MoveLaws
