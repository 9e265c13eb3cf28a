pub mod Days
pub mod Lists
pub mod Limits
pub mod Texts
pub mod Outcomes
pub mod Private
