-- What the calls of `TreeSink` do, by which a parser fills a document.
use Rattle.std.specs.Prelude.{ℕ, ◌≡◌, List, [], ◌∷◌, ◌++◌, Result, OnErr, OnOk, is_some, map, string_bytes, if◌then◌else◌}
use Rattle.dom_nodes.specs.declared.fault.EditFault.{EditFault}
use Rattle.dom_nodes.specs.declared.fault.OutOfMemory.{OutOfMemory}
use Rattle.dom_links.specs.Forest.{Forest, parent}
use Rattle.dom_links.specs.declared.gap.InsertionPoint.{InsertionPoint}
use Rattle.dom_links.specs.declared.gap.InsertionPoint.TheVariants.{Before, EndOf}
use Rattle.dom_links.specs.declared.gap.MovedNodes.TheVariants.{Node}
use Rattle.dom_trees.specs.Edits.{Edits, Makes, TreeEdit, moving_to}
use Rattle.dom_trees.specs.TreeUnderConstruction.{adding_text}
use Rattle.dom_markup.specs.declared.document.Document.{Document}
use Rattle.dom_markup.specs.declared.document.sink.NodeOrText.{NodeOrText}
use Rattle.dom_markup.specs.declared.document.sink.NodeOrText.TheVariants.{AppendNode, AppendText}

-- the document has the same parse errors and the same quirks mode as before
pub record KeepsNotes (old new : Document) : Type 0 where
  pub errors : new.errors ≡ old.errors
  pub quirks : new.quirks_mode ≡ old.quirks_mode

-- the document's tree is edited as `Edits` says; errors and quirks mode are unchanged
pub record EditsIn (result : Result Unit EditFault) (old new : Document) (edit : TreeEdit) : Type 0 where
  pub edits : Edits result old.tree new.tree edit
  pub notes : KeepsNotes old new

-- a node is made in the document's tree as `Makes` says; errors and quirks mode are unchanged
pub record MakesIn (result : Result ℕ EditFault) (old new : Document) (edit : TreeEdit) : Type 0 where
  pub makes : Makes result old.tree new.tree edit
  pub notes : KeepsNotes old new

abbrev pub errors_of : Document → List (List ℕ)
errors_of document = map string_bytes document.errors.items

-- the message is appended to the parse errors; the tree is unchanged
pub record Notes (result : Result Unit OutOfMemory) (old new : Document) (message : List ℕ) : Type 0 where
  pub ok : OnOk result (errors_of new ≡ errors_of old ++ message ∷ [])
  pub err : OnErr result (errors_of new ≡ errors_of old)
  pub tree : new.tree ≡ old.tree
  pub quirks : new.quirks_mode ≡ old.quirks_mode

-- a node is moved to the insertion point, or a text is inserted there
abbrev pub putting : InsertionPoint → NodeOrText → TreeEdit
putting gap (AppendNode n) = moving_to gap (Node n)
putting gap (AppendText text) = adding_text gap text.now

-- a node is moved to an insertion point of the document's tree, or a text is inserted there; errors and quirks mode are unchanged
abbrev pub PutsIn : InsertionPoint → NodeOrText → Document → Document → Result Unit EditFault → Type 0
PutsIn gap child old new result = EditsIn result old new (putting gap child)

-- right before node `n` if it has a parent, and otherwise at the end of the other node's children
abbrev pub gap_by_parent : Forest → ℕ → ℕ → InsertionPoint
gap_by_parent forest n other = if is_some (parent forest n) then Before n else EndOf other
