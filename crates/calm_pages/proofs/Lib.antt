mod CalmBack
mod CalmFrames
mod CalmPages
pub mod FramedPages
mod NodeRows
mod ScopeLemmas
mod TextLemmas
