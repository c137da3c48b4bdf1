pub mod PlainPages
pub mod PlainTexts
pub mod TokensAndTrees
