pub mod SeenLemmas
pub mod SelectionLemmas
pub mod GatherLemmas
pub mod SetLemmas
pub mod SelectLemmas
pub mod TextLemmas
pub mod AboveLemmas
