-- Walks, siblings and indexes.
pub mod Later
pub mod Apart
pub mod Steps
pub mod Suffixes
pub mod DownUp
pub mod GivenNodes
pub mod RowWalks
pub mod SiblingWalks
pub mod IndexLemmas
pub mod KnownLemmas
pub mod EdgeLemmas
