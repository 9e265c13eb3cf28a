pub mod Reading
pub mod Leaves
pub mod Private
