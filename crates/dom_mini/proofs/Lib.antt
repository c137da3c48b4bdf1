pub mod DescentLemmas
pub mod MiniMatchLemmas
pub mod OnwardLemmas
pub mod PathFlagLemmas
pub mod PathLemmas
pub mod SearchLemmas
