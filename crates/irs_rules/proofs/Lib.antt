pub mod First
pub mod MultipleLemmas
pub mod Streams
pub mod Decisions
pub mod ParameterDecisions
pub mod Names
pub mod Kept
pub mod Outcomes
