-- What a call promises that edits nodes of a borrowed tree.
use Rattle.std.specs.Prelude.{◌≡◌, ◌⊎◌, ℕ, List, Result, IfErr, OnOk}
use Rattle.dom_links.specs.Forest.{Forest}
use Rattle.dom_links.specs.declared.gap.Place.{Place}
use Rattle.dom_markup.specs.Documents.{IsSpelled}
use Rattle.dom_markup.specs.Setters.{ReadCause}
use Rattle.dom_trees.specs.Edits.{TreeEdit}
use Rattle.dom_edits.specs.declared.edit.SelectionFault.{SelectionFault}
use Rattle.dom_edits.specs.declared.selection_mut.SelectionMut.{SelectionMut}
use Rattle.dom_edits.specs.Edits.{Each, EditsEach, Stops, putting_known}

-- The borrowed tree was edited at each of the nodes, as `EditsEach` says. The list of nodes and the
-- borrow are the same.
pub record EditsSelected (result : Result Unit SelectionFault) (old new : SelectionMut) (edit : ℕ → TreeEdit) : Type 0 where
  pub edits : EditsEach result old.tree.now new.tree.now old.nodes.items edit
  pub same_nodes : new.nodes ≡ old.nodes
  pub same_tree : new.tree.ghost_name ≡ old.tree.ghost_name

-- Nothing was done, since the markup can't be parsed.
pub record IsUnread (text : List ℕ) (old new : Forest) (stop : SelectionFault) : Type 0 where
  pub nothing_done : stop.done ≡ 0
  pub same : new ≡ old
  pub cause : ReadCause text stop.fault

-- The text was parsed, and inserted at the place at each of the nodes.
abbrev pub PutsEach : List ℕ → Place → List ℕ → Forest → Forest → Type 0
PutsEach text place nodes old new = (read : Forest) × IsSpelled text read × Each (putting_known place read) nodes old new

-- The text was parsed, and inserting it stopped at one of the nodes.
abbrev pub PutsSome : List ℕ → Place → List ℕ → Forest → Forest → SelectionFault → Type 0
PutsSome text place nodes old new stop = (read : Forest) × IsSpelled text read × Stops (putting_known place read) nodes old new stop

-- The text is parsed first, and then inserted at each of the nodes of the borrowed tree, as
-- `EditsEach` says. The list of nodes and the borrow are the same.
pub record PutsSelected (result : Result Unit SelectionFault) (old new : SelectionMut) (text : List ℕ) (place : Place) : Type 0 where
  pub ok : OnOk result (PutsEach text place old.nodes.items old.tree.now new.tree.now)
  pub err : IfErr result (λ stop. IsUnread text old.tree.now new.tree.now stop ⊎ PutsSome text place old.nodes.items old.tree.now new.tree.now stop)
  pub same_nodes : new.nodes ≡ old.nodes
  pub same_tree : new.tree.ghost_name ≡ old.tree.ghost_name
