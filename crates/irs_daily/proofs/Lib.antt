pub mod RowSteps
pub mod Growths
pub mod PeriodSteps
pub mod PeriodsListed
pub mod OneList
pub mod RowLaws
