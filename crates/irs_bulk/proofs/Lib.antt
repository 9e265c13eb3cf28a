pub mod CalendarLengths
pub mod SumLemmas
pub mod BulkRunLemmas
