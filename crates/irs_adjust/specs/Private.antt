pub mod MovedDays
pub mod ConventionLaws
