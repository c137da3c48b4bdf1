pub mod Calm
pub mod Scopes
