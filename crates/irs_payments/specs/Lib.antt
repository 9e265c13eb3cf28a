pub mod Exchanges
pub mod Payments
pub mod Private
