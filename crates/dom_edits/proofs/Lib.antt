pub mod EachLemmas
pub mod SourceLemmas
