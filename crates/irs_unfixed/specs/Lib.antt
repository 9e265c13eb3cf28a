pub mod Unfixed
pub mod Private
