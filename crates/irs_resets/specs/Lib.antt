pub mod FixingFiles
pub mod Rates
pub mod SlotOrder
pub mod Resets
pub mod Private
