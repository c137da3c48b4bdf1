-- What a reader builds is a forest.
pub mod NumberedLemmas
pub mod Frames
pub mod AttrLemmas
pub mod NoteLemmas
pub mod LateChanges
pub mod GrowingLemmas
pub mod LateLemmas
pub mod Steps
pub mod Filling
pub mod BareRows
pub mod RowsForest
pub mod RowsSound
pub mod DocumentSound
pub mod Putting
