pub mod FactorSteps
