pub mod WordLemmas
pub mod AttrLemmas
pub mod ClassLemmas
pub mod UpdateLemmas
pub mod LawLemmas
pub mod KnownLemmas
pub mod PartLemmas
