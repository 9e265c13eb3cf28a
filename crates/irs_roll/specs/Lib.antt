pub mod Rolls
pub mod Private
