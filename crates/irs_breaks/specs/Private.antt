pub mod Blocks
pub mod Findings
