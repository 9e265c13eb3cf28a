pub mod Averages
pub mod Interpolations
pub mod Private
