pub mod Ranged
pub mod Steps
