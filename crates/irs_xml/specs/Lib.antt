pub mod Characters
pub mod Tags
pub mod Content
pub mod Document
pub mod Private
