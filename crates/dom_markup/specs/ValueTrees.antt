-- The content of a document as plain values, without node ids: names, attributes and texts.
use Rattle.std.specs.Prelude.{ℕ, List}

pub record Attribute : Type 0 where
  pub name : List ℕ
  pub value : List ℕ

-- a list of trees: empty, or a first tree and the trees after it
pub data ValueTrees : Type 0 where
  no_trees : ValueTrees
  -- a text with these contents
  text_node : List ℕ → ValueTrees → ValueTrees
  -- a comment with these contents
  comment_node : List ℕ → ValueTrees → ValueTrees
  -- a doctype with this name, public identifier and system identifier
  doctype_node : List ℕ → List ℕ → List ℕ → ValueTrees → ValueTrees
  -- an element with this name, these attributes and these children; for a `template`, the children of its contents
  element_node : List ℕ → List Attribute → ValueTrees → ValueTrees → ValueTrees
