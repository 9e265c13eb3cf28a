pub mod MovedDays
pub mod Private
