pub mod OvernightRates
