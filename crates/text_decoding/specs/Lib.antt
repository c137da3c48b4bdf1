pub mod Decoding
pub mod Pages
pub mod Utf8
