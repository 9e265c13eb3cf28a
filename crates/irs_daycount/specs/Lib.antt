pub mod Fractions
pub mod Private
