pub mod AbsentLemmas
pub mod CountLemmas
pub mod PlaceLemmas
pub mod RateLemmas
pub mod MadeLemmas
pub mod GapLemmas
pub mod MissingLemmas
pub mod OneFixing
