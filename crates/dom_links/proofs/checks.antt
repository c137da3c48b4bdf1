-- The check of raw nodes.
pub mod Accepted
pub mod Checked
pub mod Sounds
pub mod Cycles
pub mod Rowed
