pub mod Rising
pub mod Files
pub mod Closed
