-- What is written of a forest.
pub mod WritingLemmas
pub mod CutLemmas
pub mod EscapeLemmas
pub mod TreatedNames
pub mod EdgeTextLemmas
pub mod InertLemmas
pub mod JoinedHtml
pub mod ReadBack
