pub mod Clean
pub mod Laws
pub mod Plan
pub mod Sets
pub mod Written
