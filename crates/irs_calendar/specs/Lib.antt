pub mod GoodDays
pub mod Rising
pub mod Sections
pub mod Grammar
pub mod Private
