pub mod PathLengths
pub mod RuleNumbers
pub mod FaultOrder
pub mod FirstDays
pub mod NeedLemmas
pub mod CurrencyLemmas
