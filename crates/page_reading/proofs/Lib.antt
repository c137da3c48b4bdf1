mod BytePageLemmas
mod DecodingLemmas
mod HeldLemmas
mod PageLemmas
mod PartLemmas
pub mod StandardLemmas
mod Utf8Lemmas
