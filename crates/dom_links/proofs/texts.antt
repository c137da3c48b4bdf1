-- Texts are set, added, counted and joined.
pub mod AddingTexts
pub mod SettingTexts
pub mod Counting
pub mod Joining
pub mod Rewriting
pub mod JoinedNodes
pub mod JoinedTwice
