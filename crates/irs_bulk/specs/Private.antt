pub mod BulkRuns
