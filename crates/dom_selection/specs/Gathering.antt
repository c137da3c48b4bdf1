-- Collecting nodes one after another, each once.
use Rattle.std.specs.Prelude.{ℕ, ◌≡◌, true, List, None}
use Rattle.dom_links.specs.Forest.{Forest}
use Rattle.dom_links.specs.Lists.{is_member}
use Rattle.dom_trees.specs.Views.{refs_to}
use Rattle.dom_selection.specs.Seen.{HaveSame, with_unseen}
use Rattle.dom_selection.specs.Selections.{elements_above}
use Rattle.dom_selection.specs.declared.selection.gathering.Gathered.{Gathered}
use Rattle.dom_selection.specs.declared.selection.gathering.Relation.{Relation}
use Rattle.dom_selection.specs.declared.selection.gathering.Relation.TheVariants.{Above}

-- Exactly these nodes were found so far, in this order.
pub record HasGathered (gathered : Gathered) (met : List ℕ) : Type 0 where
  pub nodes : gathered.nodes.items ≡ refs_to gathered.tree met
  pub seen : HaveSame met gathered.seen

-- These nodes were found, one after another, in the same tree.
pub record Gathers (old new : Gathered) (ids : List ℕ) : Type 0 where
  pub tree : new.tree ≡ old.tree
  pub met : (before : List ℕ) → HasGathered old before → HasGathered new (with_unseen before ids)

-- With each node that was found, all elements above it were found.
abbrev pub IsClosed : Forest → List ℕ → Type 0
IsClosed forest seen = (n m : ℕ) → is_member n seen ≡ true → is_member m (elements_above None forest n) ≡ true → is_member m seen ≡ true

-- The condition above, where it is needed: when all ancestors are collected.
abbrev pub IsClosedFor : Relation → Gathered → Type 0
IsClosedFor Above gathered = IsClosed gathered.tree.now gathered.seen
IsClosedFor step gathered = Unit {0}
