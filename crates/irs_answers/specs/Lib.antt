pub mod Tasks
pub mod Forms
pub mod Messages
pub mod Derived
pub mod PrintedRates
pub mod Due
pub mod Notes
pub mod Private
