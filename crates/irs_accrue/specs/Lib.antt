pub mod Accruals
pub mod DailyAccruals
pub mod Private
