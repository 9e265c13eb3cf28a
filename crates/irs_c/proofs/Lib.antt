pub mod Texts
pub mod EachLemmas
pub mod LentLemmas
pub mod ShownLemmas
