pub mod KeyLemmas
pub mod TotalLemmas
pub mod NetLemmas
pub mod NetThere
pub mod SumLemmas
pub mod PartLemmas
pub mod SideLemmas
pub mod SidesThere
