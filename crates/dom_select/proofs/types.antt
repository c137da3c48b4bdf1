-- Types of nodes, and positions among siblings.
pub mod PositionLemmas
pub mod TypeCountLemmas
pub mod TypeIndexLemmas
pub mod TypeLemmas
pub mod SubjectLemmas
