pub mod Observations
pub mod ObservedRates
pub mod OvernightRates
pub mod Private
