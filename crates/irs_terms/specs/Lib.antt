pub mod Elements
pub mod Paths
pub mod Faults
pub mod Lawful
pub mod TermDates
pub mod Centers
pub mod Private
