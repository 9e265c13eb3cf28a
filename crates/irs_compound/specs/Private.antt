pub mod AmountLaws
pub mod RateLaws
