pub mod Spans
pub mod Boundaries
pub mod Private
