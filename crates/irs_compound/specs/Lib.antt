pub mod PeriodRates
pub mod Amounts
pub mod Private
