pub mod Trees
pub mod Flows
pub mod Private
