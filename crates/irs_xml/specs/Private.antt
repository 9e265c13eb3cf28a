pub mod Reading
pub mod TagViews
