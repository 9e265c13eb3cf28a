mod DatesOnRolls
pub mod GridsDecided
