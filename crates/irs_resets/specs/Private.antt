pub mod FixingFiles
pub mod SlotOrder
pub mod Resets
