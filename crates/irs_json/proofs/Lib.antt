pub mod Views
pub mod Trims
pub mod NamesInOrder
