-- Inserting copies of source nodes at each node of a selection.
use Rattle.std.specs.Prelude.{◌≡◌, ◌⊎◌, ◌≤◌, ℕ, List, [], ◌∷◌, Result, IfErr, OnOk, length}
use Rattle.dom_nodes.specs.declared.fault.EditFault.TheVariants.{UnknownNode}
use Rattle.dom_links.specs.Copying.{AreNodesOf}
use Rattle.dom_links.specs.Forest.{Forest}
use Rattle.dom_links.specs.ListMoves.{SomeOf}
use Rattle.dom_links.specs.Moves.{detach}
use Rattle.dom_links.specs.declared.gap.Place.{Place}
use Rattle.dom_edits.specs.declared.edit.SelectionFault.{SelectionFault}
use Rattle.dom_edits.specs.declared.selection_mut.SelectionMut.{SelectionMut}
use Rattle.dom_edits.specs.Edits.{Each, Stops, copying_to}

-- The forest with each of the nodes detached, one after another.
abbrev pub removed : List ℕ → Forest → Forest
removed [] forest = forest
removed (n ∷ ns) forest = removed ns (detach (n ∷ []) forest)

-- Nothing was done, since one of the source nodes is unknown.
pub record IsUnknownSource (sources : List ℕ) (old new : Forest) (stop : SelectionFault) : Type 0 where
  pub nothing_done : stop.done ≡ 0
  pub same : new ≡ old
  pub unknown : SomeOf sources (λ n. length old.content ≤ n)
  pub fault : stop.fault ≡ UnknownNode

-- The source nodes are known and were detached, or one of them is unknown.
pub record DetachesSources (result : Result Unit SelectionFault) (old new : Forest) (sources : List ℕ) : Type 0 where
  pub known : OnOk result (AreNodesOf old sources)
  pub ok : OnOk result (new ≡ removed sources old)
  pub err : IfErr result (IsUnknownSource sources old new)

-- Copies of the source nodes, in this order, were inserted at the place at each of the nodes.
-- Without sources nothing changes.
abbrev pub CopiesEach : Place → List ℕ → List ℕ → Forest → Forest → Type 0
CopiesEach place [] nodes old new = new ≡ old
CopiesEach place (g ∷ gs) nodes old new = Each (copying_to place (g ∷ gs)) nodes old new

-- Inserting the copies stopped at one of the nodes.
abbrev pub CopiesSome : Place → List ℕ → List ℕ → Forest → Forest → SelectionFault → Type 0
CopiesSome place [] nodes old new stop = ⊥
CopiesSome place (g ∷ gs) nodes old new stop = Stops (copying_to place (g ∷ gs)) nodes old new stop

-- Copies of nodes are inserted at each of the nodes of the borrowed tree. The list of nodes and the
-- borrow are the same.
pub record CopiesSelected (result : Result Unit SelectionFault) (old new : SelectionMut) (ordered : List ℕ) (place : Place) : Type 0 where
  pub ok : OnOk result (CopiesEach place ordered old.nodes.items old.tree.now new.tree.now)
  pub err : IfErr result (CopiesSome place ordered old.nodes.items old.tree.now new.tree.now)
  pub same_nodes : new.nodes ≡ old.nodes
  pub same_tree : new.tree.ghost_name ≡ old.tree.ghost_name

-- The source nodes are known, and P is true of the forest with them detached.
abbrev pub AfterRemoval : List ℕ → Forest → (Forest → Type 0) → Type 0
AfterRemoval sources old P = AreNodesOf old sources × P (removed sources old)

-- The source nodes are detached first, and stay so. Then copies of them, in this order, are
-- inserted at the place at each of the nodes, or that stops at one. If a source is unknown, nothing
-- is done. The list of nodes and the borrow are the same.
pub record TransfersSelected (result : Result Unit SelectionFault) (old new : SelectionMut) (sources ordered : List ℕ) (place : Place) : Type 0 where
  pub ok : OnOk result (AfterRemoval sources old.tree.now (λ forest. CopiesEach place ordered old.nodes.items forest new.tree.now))
  pub err : IfErr result (λ stop. IsUnknownSource sources old.tree.now new.tree.now stop ⊎ AfterRemoval sources old.tree.now (λ forest. CopiesSome place ordered old.nodes.items forest new.tree.now stop))
  pub same_nodes : new.nodes ≡ old.nodes
  pub same_tree : new.tree.ghost_name ≡ old.tree.ghost_name
