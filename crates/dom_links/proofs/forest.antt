-- Forests, their links, and one node more.
pub mod Neighbours
pub mod Places
pub mod Chains
pub mod Nodes
pub mod Depth
pub mod Climbs
pub mod Grown
pub mod Linked
pub mod Appends
pub mod Templates
pub mod Changing
pub mod Written
