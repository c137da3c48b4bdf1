pub mod Building
pub mod ElementNames
pub mod PlainTrees
pub mod RuleWords
pub mod TreeRules
pub mod TreeTokens
