pub mod Characters
pub mod Indexes
