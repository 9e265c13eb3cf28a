pub mod TermsRules
pub mod Parameters
pub mod Private
