pub mod Lookup
pub mod Parts
pub mod Answering
