pub mod Shown
pub mod Elements
pub mod Rules
pub mod WrongWords
pub mod Notes
pub mod Sentences
pub mod Answering
pub mod Private
