pub mod Lines
pub mod Names
pub mod EditLines
pub mod ListLines
pub mod Reading
pub mod Scripts
