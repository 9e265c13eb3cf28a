pub mod Readings
pub mod StreamElements
pub mod Documents
pub mod Private
