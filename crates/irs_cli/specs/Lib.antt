pub mod Commands
pub mod Given
pub mod Run
pub mod Pages
pub mod Private
