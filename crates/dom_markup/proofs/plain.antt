-- Plain documents are read back.
pub mod WrittenTrees
pub mod PlainText
pub mod PlainForest
pub mod PlainRows
pub mod PlainRead
pub mod PlainUtf8
pub mod PlainOnce
pub mod SameLemmas
