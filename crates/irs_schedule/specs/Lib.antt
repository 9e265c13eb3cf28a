pub mod Parts
pub mod Schedules
pub mod Views
pub mod RowsOf
pub mod AllWalks
pub mod DaySets
pub mod Private
