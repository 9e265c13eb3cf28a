pub mod ObservedRows
pub mod Laws
pub mod Private
