pub mod Escaping
pub mod Inline
pub mod Lines
pub mod Reading
