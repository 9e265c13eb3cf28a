pub mod Fetching
pub mod Pages
