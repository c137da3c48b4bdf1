pub mod Parsers
pub mod Utf8Pages
pub mod Pages
pub mod StandardPages
pub mod PageDecoding
pub mod BytePages
