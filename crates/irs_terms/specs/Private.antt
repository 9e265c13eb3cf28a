pub mod TermDates
