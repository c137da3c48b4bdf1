-- Replacing elements by their children.
use Rattle.std.specs.Prelude.{ℕ, ◌≡◌, not, Bool, false, List, [], ◌∷◌, filter, slice_get}
use Rattle.std.specs.Option.{option_and_then, option_map_or}
use Rattle.dom_nodes.specs.Attrs.{name_in}
use Rattle.dom_nodes.specs.Words.{is_among}
use Rattle.dom_links.specs.Forest.{Forest, children_of}
use Rattle.dom_links.specs.Moves.{before_node, detach, moved_to}
use Rattle.dom_links.specs.Sound.{IsForest}
use Rattle.dom_links.specs.Trees.{descendants_in_order}

-- The forest with the children of p moved before p, and then p detached.
abbrev pub dissolved : ℕ → Forest → Forest
dissolved p forest = detach (p ∷ []) (moved_to (children_of forest p) (before_node p) forest)

-- The forest with each of the nodes replaced by its children, one after another.
abbrev pub all_dissolved : List ℕ → Forest → Forest
all_dissolved [] forest = forest
all_dissolved (p ∷ ps) forest = all_dissolved ps (dissolved p forest)

-- Whether the node is an element whose local name is one of the names.
abbrev pub is_named : List (List ℕ) → Forest → ℕ → Bool
is_named names forest n = option_map_or (λ name. is_among name names) (option_and_then name_in (slice_get forest.content n)) false

-- The forest with each element below x that has one of the names replaced by its children.
abbrev pub stripped : List (List ℕ) → ℕ → Forest → Forest
stripped names x forest = all_dissolved (filter (is_named names forest) (descendants_in_order forest x)) forest

-- What stripping does: the descendants of x are then those that didn't have the names, in their
-- order, and stripping is idempotent.
pub record IsStripped (names : List (List ℕ)) (x : ℕ) (forest : Forest) : Type 0 where
  pub kept : IsForest (stripped names x forest)
  pub left : descendants_in_order (stripped names x forest) x ≡ filter (λ n. not (is_named names forest n)) (descendants_in_order forest x)
  pub again : stripped names x (stripped names x forest) ≡ stripped names x forest
