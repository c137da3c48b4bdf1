pub mod LineLemmas
pub mod MarkLemmas
pub mod ReadingLemmas
pub mod StepLemmas
