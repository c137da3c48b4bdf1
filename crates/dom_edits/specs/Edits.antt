-- Edits at a node, and at each node of a list.
use Rattle.std.specs.Prelude.{◌≡◌, ◌≤◌, ℕ, List, [], ◌∷◌, Result, Some, IfErr, OnOk, length, map, slice_get, take}
use Rattle.dom_nodes.specs.declared.fault.EditFault.{EditFault}
use Rattle.dom_nodes.specs.declared.fault.EditFault.TheVariants.{UnknownNode}
use Rattle.dom_links.specs.Forest.{Forest}
use Rattle.dom_links.specs.Insertions.{MayInsert, inserted}
use Rattle.dom_links.specs.declared.gap.Place.{Place}
use Rattle.dom_links.specs.Stripped.{stripped}
use Rattle.dom_trees.specs.Edits.{IsKnown, TreeEdit, changing, normalizing, removing, setting_text, unwrapping}
use Rattle.dom_trees.specs.Refusals.{InsertCause, KnownCause}
use Rattle.dom_markup.specs.Fragments.{top_nodes}
use Rattle.dom_markup.specs.Setters.{IsOpenAt, PutCause}
use Rattle.dom_edits.specs.declared.edit.Edit.{Edit}
use Rattle.dom_edits.specs.declared.edit.Edit.TheVariants.{Change, SetText, Remove, Unwrap, Strip, Normalize, Put, Copy}
use Rattle.dom_edits.specs.declared.edit.SelectionFault.{SelectionFault}

-- Replacing each element below x with one of the local names by its children.
abbrev pub stripping : List (List ℕ) → ℕ → TreeEdit
stripping names x = record { after = stripped names x; Allowed = IsKnown x; Cause = KnownCause x }

-- When inserting parsed markup may fail: x is unknown, or it is known and the insertion at the
-- place fails.
abbrev pub PutKnownCause : Place → ℕ → Forest → Forest → EditFault → Type 0
PutKnownCause place x read forest UnknownNode = length forest.content ≤ x
PutKnownCause place x read forest fault = IsKnown x forest × PutCause place x read forest fault

-- Inserting the top-level nodes of parsed markup at a place relative to x.
abbrev pub putting_known : Place → Forest → ℕ → TreeEdit
putting_known place read x = record {
  after = inserted read (top_nodes read) place x;
  Allowed = IsOpenAt place x;
  Cause = PutKnownCause place x read;
}

-- Inserting copies of nodes of the same forest at a place relative to x.
abbrev pub copying_to : Place → List ℕ → ℕ → TreeEdit
copying_to place ns x = record {
  after = λ forest. inserted forest ns place x forest;
  Allowed = λ forest. MayInsert forest ns place x forest;
  Cause = λ forest. InsertCause forest ns place x forest;
}

-- The edit that is made at a node.
abbrev pub edit_at : Edit → ℕ → TreeEdit
edit_at (Change change) n = changing n change
edit_at (SetText text) n = setting_text n text.now
edit_at Remove n = removing n
edit_at Unwrap n = unwrapping n
edit_at (Strip names) n = stripping (map (λ name. name.now) names.now) n
edit_at Normalize n = normalizing n
edit_at (Put place snippet) n = putting_known place snippet.now n
edit_at (Copy place ids) n = copying_to place ids.now n

-- The edit was made at each of the nodes, one after another, and was allowed there.
abbrev pub Each : (ℕ → TreeEdit) → List ℕ → Forest → Forest → Type 0
Each edit [] old new = new ≡ old
Each edit (n ∷ ns) old new = (edit n).Allowed old × Each edit ns ((edit n).after old) new

-- The edit was made at exactly the first `done` nodes, and failed at the next one with a fault that
-- has its cause.
pub record Stops (edit : ℕ → TreeEdit) (nodes : List ℕ) (old new : Forest) (stop : SelectionFault) : Type 0 where
  pub node : ℕ
  pub next : slice_get nodes stop.done ≡ Some node
  pub before : Each edit (take stop.done nodes) old new
  pub cause : (edit node).Cause new stop.fault

-- The result of an edit at each node: it was made at all of them, or it stopped at one.
pub record EditsEach (result : Result Unit SelectionFault) (old new : Forest) (nodes : List ℕ) (edit : ℕ → TreeEdit) : Type 0 where
  pub ok : OnOk result (Each edit nodes old new)
  pub err : IfErr result (Stops edit nodes old new)
