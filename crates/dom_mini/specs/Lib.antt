pub mod MiniPaths
pub mod PathFlags
pub mod Descents
pub mod Traversals
