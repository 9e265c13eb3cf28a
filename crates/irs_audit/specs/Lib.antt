pub mod StatedFlows
pub mod Verdicts
pub mod Private
