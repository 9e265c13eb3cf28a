pub mod Documents
pub mod BulkRuns
pub mod Private
