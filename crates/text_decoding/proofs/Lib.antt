pub mod Lending
pub mod PageTexts
pub mod Pieces
pub mod States
pub mod Utf8Steps
pub mod Utf8Texts
