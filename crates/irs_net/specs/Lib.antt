pub mod Nets
pub mod Parties
pub mod Private
