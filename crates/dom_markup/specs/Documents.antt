-- What `Document::parse` returns, and what its errors say about the text.
use Rattle.std.specs.Prelude.{◌≡◌, ◌≤◌, ℕ, List, [], Option, IfSome, Result, MatchResult, String, length, string_bytes}
use Rattle.std.specs.Option.{option_map}
use Rattle.dom_nodes.specs.declared.fault.MarkupFault.{MarkupFault}
use Rattle.dom_nodes.specs.declared.fault.MarkupFaultKind.{MarkupFaultKind}
use Rattle.dom_links.specs.Forest.{Forest}
use Rattle.dom_trees.specs.SameTree.{SameTree}
use Rattle.dom_trees.specs.declared.node_ref.NodeRef.{NodeRef}
use Rattle.dom_markup.specs.declared.document.Document.{Document}
use Rattle.dom_trees.specs.declared.quirks.QuirksMode.TheVariants.{NoQuirks}
use Rattle.dom_markup.specs.FaultKinds.{HoldsMark, IsLimitFault, IsNestingFault}
use Rattle.dom_markup.specs.Markup.{Item, Spells, SpellsItemsUpTo}
use Rattle.dom_markup.specs.Names.{markup}
use Rattle.dom_markup.specs.Numbered.{document_of}
use Rattle.dom_markup.specs.Plain.{IsPlain}
use Rattle.dom_markup.specs.ReadingBack.{SpellsDocument}
use Rattle.dom_markup.specs.ValueTrees.{ValueTrees}

-- the grammar reads the text as trees, and the forest is the document of those trees
abbrev pub IsSpelled : List ℕ → Forest → Type 0
IsSpelled text forest = (trees : ValueTrees) × Spells text trees × (forest ≡ document_of trees)

-- the document has no parse errors and is in no-quirks mode
pub record NotesNothing (document : Document) : Type 0 where
  pub no_errors : document.errors.items ≡ []
  pub no_quirks : document.quirks_mode ≡ NoQuirks

-- the document is what the grammar reads the text as, without errors or quirks
pub record IsDocumentOf (text : List ℕ) (document : Document) : Type 0 where
  pub spelled : IsSpelled text document.tree
  pub notes : NotesNothing document

-- What a fault says about the whole text, and about the byte at which it is reported.
pub record IsFaultOf (text : List ℕ) (Refused : List ℕ → MarkupFaultKind → Type 0) (IsFaultAt : List ℕ → ℕ → MarkupFaultKind → Type 0) (fault : MarkupFault) : Type 0 where
  pub refused : Refused text fault.kind
  pub place : fault.at ≤ length text
  pub cause : IsFaultAt text fault.at fault.kind

-- Which kinds of faults a text can have. If the text is a sequence of complete tokens, the fault is one of nesting or a limit.
-- `BadComment`, `Instruction` and `StrayEnd` need their opening characters in the text.
pub record SuitsText (text : List ℕ) (kind : MarkupFaultKind) : Type 0 where
  pub nesting : (items : List Item) → SpellsItemsUpTo markup text items [] → IsNestingFault kind
  pub marks : HoldsMark text kind

-- the node with this id in this tree, or none
pub record IsNodeAt (forest : Forest) (number : Option ℕ) (result : Option NodeRef) : Type 0 where
  pub number_is : option_map (λ (node : NodeRef). node.id) result ≡ number
  pub tree_is : IfSome result (λ node. node.tree.now ≡ forest)

-- The string is this HTML. If the document is plain, the grammar reads the HTML as the same tree.
pub record IsHtml {A : Type 0} (forest : Forest) (html : List ℕ) (text : String A) : Type 0 where
  pub is : string_bytes text ≡ html
  pub spells : IsPlain forest → SpellsDocument (string_bytes text) forest

-- If the grammar reads the text as this document, then so does the call, unless it meets a limit.
abbrev pub ReadsSpelled : List ℕ → Result Document MarkupFault → Type 0
ReadsSpelled text result =
    (forest : Forest) → SpellsDocument text forest → MatchResult result (λ document. SameTree forest 0 document.tree 0) (λ fault. IsLimitFault fault.kind)
