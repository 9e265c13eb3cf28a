pub mod Products
pub mod Periods
pub mod OneAccrual
pub mod OneDaily
pub mod AccrualThere
pub mod Places
