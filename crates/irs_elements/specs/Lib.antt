pub mod Lines
pub mod Numbers
pub mod Leaves
pub mod Codes
pub mod Elements
pub mod Private
