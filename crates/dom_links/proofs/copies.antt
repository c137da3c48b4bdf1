-- Copies of nodes, and where they go.
pub mod Copied
pub mod CopiedForests
pub mod CopiedTrees
pub mod Gathering
pub mod Inserting
pub mod Fresh
