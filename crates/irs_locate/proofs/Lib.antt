pub mod Searches
pub mod Opens
pub mod Rows
pub mod Lies
pub mod ShortWays
pub mod OneRow
pub mod OneKind
pub mod OneMember
