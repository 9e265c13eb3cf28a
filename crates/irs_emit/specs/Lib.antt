pub mod Emitted
pub mod RowLaws
pub mod Private
