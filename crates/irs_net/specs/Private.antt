pub mod FoundParties
