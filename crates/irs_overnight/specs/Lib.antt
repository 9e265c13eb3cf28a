pub mod Observations
pub mod Overnight
pub mod Texts
pub mod TwoPrecisions
pub mod Private
