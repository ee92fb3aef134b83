mod DrawingLemmas
mod FieldLemmas
mod LineLemmas
mod ReadingLemmas
