-- Markup that is parsed and inserted into a tree.
use Rattle.std.specs.Prelude.{ℕ, ◌≡◌, ◌≤◌, ◌<◌, ◌⊎◌, true, List, [], ◌∷◌, Result, IfErr, OnErr, OnOk, length}
use Rattle.dom_nodes.specs.declared.fault.EditFault.{EditFault}
use Rattle.dom_nodes.specs.declared.fault.EditFault.TheVariants.{TooManyNodes, Memory, Markup}
use Rattle.dom_nodes.specs.declared.fault.MarkupFault.{MarkupFault}
use Rattle.dom_nodes.specs.declared.fault.MarkupFaultKind.{MarkupFaultKind}
use Rattle.dom_nodes.specs.declared.fault.MarkupFaultKind.TheVariants as kinds
use Rattle.dom_links.specs.Copies.{copied}
use Rattle.dom_links.specs.Forest.{Forest}
use Rattle.dom_links.specs.Insertions.{gap_at, inserted}
use Rattle.dom_links.specs.Sound.{is_open}
use Rattle.dom_links.specs.declared.gap.Place.{Place}
use Rattle.dom_links.specs.declared.gap.Place.TheVariants.{Before, InsteadOfNode}
use Rattle.dom_trees.specs.Edits.{IsKnown, TreeEdit}
use Rattle.dom_trees.specs.Lending.{IsSameLoan}
use Rattle.dom_trees.specs.Refusals.{PlaceCause}
use Rattle.dom_trees.specs.declared.node_mut.NodeMut.{NodeMut}
use Rattle.dom_markup.specs.Documents.{IsSpelled}
use Rattle.dom_markup.specs.FaultKinds.{IsLimitFault}
use Rattle.dom_markup.specs.Fragments.{top_nodes}
use Rattle.dom_markup.specs.Markup.{SpellsNothing}
use Rattle.dom_markup.specs.Refusals.{BeginsTooManyNodes, IsFaultAt}

-- ---- inserting what was parsed

-- the forest has the node `x`, and nodes may be inserted at this place
abbrev pub IsOpenAt : Place → ℕ → Forest → Type 0
IsOpenAt place x forest = IsKnown x forest × (is_open (gap_at place x) forest ≡ true)

-- why the parsed nodes can't be inserted there
abbrev pub PutCause : Place → ℕ → Forest → Forest → EditFault → Type 0
PutCause place x read forest TooManyNodes = 4294967295 < length (copied read (top_nodes read) forest).content
PutCause place x read forest Memory = Unit {0}
PutCause place x read forest fault = PlaceCause place x forest fault

-- the children of the parsed root, without doctypes, are copied to a place at the node `x`
abbrev pub putting : Place → ℕ → Forest → TreeEdit
putting place x read = record {
  after = inserted read (top_nodes read) place x;
  Allowed = IsOpenAt place x;
  Cause = PutCause place x read;
}

-- The place of the new nodes when they replace a node. If there are none, the old node stays.
abbrev pub replacing : List ℕ → Place
replacing [] = Before
replacing (n ∷ ns) = InsteadOfNode

-- the parsed nodes replace the node `x`, if there are any
abbrev pub replacing_by : ℕ → Forest → TreeEdit
replacing_by x read = putting (replacing (top_nodes read)) x read

-- ---- contracts of calls that parse markup first

-- the text is not markup: it has a fault at this byte, and the fault is not a limit
pub record IsNoMarkup (text : List ℕ) (fault : MarkupFault) : Type 0 where
  pub spells_nothing : SpellsNothing text
  pub within : fault.at ≤ length text
  pub cause : IsFaultAt text fault.at fault.kind
  pub no_limit : IsLimitFault fault.kind → ⊥

-- the tree is edited with what the text is parsed as
pub record IsEditedBy (text : List ℕ) (edit : Forest → TreeEdit) (old new : Forest) : Type 0 where
  pub read : Forest
  pub spelled : IsSpelled text read
  pub made : new ≡ (edit read).after old
  pub allowed : (edit read).Allowed old

-- the text is markup, and the edit with what it is parsed as fails
abbrev pub IsRefusedBy : List ℕ → (Forest → TreeEdit) → Forest → EditFault → Type 0
IsRefusedBy text edit forest fault = (read : Forest) × IsSpelled text read × (edit read).Cause forest fault

-- why a text can't be parsed: it is not markup, or a limit was met
abbrev pub ReadCause : List ℕ → EditFault → Type 0
ReadCause text (Markup fault) = IsNoMarkup text fault
ReadCause text TooManyNodes = BeginsTooManyNodes text
ReadCause text Memory = Unit {0}
ReadCause text _ = ⊥

-- why nothing is edited: the text can't be parsed, or the edit fails
abbrev pub HtmlCause : List ℕ → (Forest → TreeEdit) → Forest → EditFault → Type 0
HtmlCause text edit forest fault = ReadCause text fault ⊎ IsRefusedBy text edit forest fault

-- The text is parsed, and the borrowed tree is edited with the result; or the call fails with its cause, and nothing changes. The
-- handle refers to the same node and tree as before.
pub record EditsByHtml (result : Result Unit EditFault) (old new : NodeMut) (text : List ℕ) (edit : Forest → TreeEdit) : Type 0 where
  pub ok : OnOk result (IsEditedBy text edit old.tree.now new.tree.now)
  pub err : OnErr result (new.tree.now ≡ old.tree.now)
  pub cause : IfErr result (HtmlCause text edit old.tree.now)
  pub loan : IsSameLoan old new

-- what the text is parsed as is inserted at a place at the node
abbrev pub PutsHtml : Place → List ℕ → NodeMut → NodeMut → Result Unit EditFault → Type 0
PutsHtml place text old new result = EditsByHtml result old new text (putting place old.id)

-- the error of an edit for this fault of the parser
abbrev pub named_edit : MarkupFaultKind → MarkupFault → EditFault
named_edit kinds.TooManyNodes fault = TooManyNodes
named_edit kinds.Memory fault = Memory
named_edit kind fault = Markup fault
