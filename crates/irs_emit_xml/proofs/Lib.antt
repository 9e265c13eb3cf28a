mod Spelling
mod Rules
mod Means
pub mod ReadBack
mod Joining
mod PlainTexts
mod Currencies
pub mod Lines
mod FlowValues
mod FlowRules
pub mod Walks
pub mod Document
mod Carried
pub mod Stated
