pub mod EntryLemmas
pub mod CreateLemmas
pub mod OnceLemmas
pub mod OverLemmas
pub mod FitsLemmas
pub mod ColumnLemmas
pub mod BoundLemmas
