pub mod Fields
pub mod Responses
