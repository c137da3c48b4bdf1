-- Elements that are closed with all that were opened after them, unless an element that ends the search comes first (13.2.6.4.7): what the
-- searches find, and what is done to the stack.
use Rattle.std.specs.Prelude.{◌≡◌, ◌+◌, ◌≤◌, ◌<◌, ◌&&◌, Bool, List, None, Option, Some, [], ◌∷◌, codes, false, not, reverse, true, ℕ}
use Rattle.standard_trees.specs.GrowingTree.{GrowingTree, in_scope, is_one, popped_until}
use Rattle.standard_trees.specs.NameLists.{crossed_by_items, special}
use Rattle.page_trees.specs.Scopes.{last_place}
use Rattle.page_trees.specs.declared.name.Name.{Name}
use Rattle.page_trees.specs.declared.stack.Open.{Open}

-- the place before the one that a search found, unless what ends the search comes after it
abbrev pub IsPlaceFrom : ℕ → ℕ → Option ℕ → Type 0
IsPlaceFrom end top None = 0 < top → end ≤ top → ⊥
IsPlaceFrom end top (Some place) = (place + 1 ≡ top) × (end ≤ top)

-- the index of the last wanted element, if none that ends the search comes after it
abbrev pub IsFoundAt : (Open → Bool) → (Open → Bool) → List Open → Option ℕ → Type 0
IsFoundAt wanted ends all None = in_scope wanted ends (reverse all) ≡ false
IsFoundAt wanted ends all (Some place) = (in_scope wanted ends (reverse all) ≡ true) × (place + 1 ≡ last_place wanted all)

-- if one of these elements comes before one that ends the search, elements are popped until one of these has been popped
abbrev pub closed_before : (GrowingTree → ℕ → Bool) → List (List ℕ) → GrowingTree → GrowingTree
closed_before ends names t = elim (in_scope (is_one t names) (ends t) t.stack) [ true ↦ popped_until names t | false ↦ t ]

-- any other end tag: a special element ends the search
abbrev pub is_special_node : GrowingTree → ℕ → Bool
is_special_node t n = is_one t special n

-- the special elements that end the search for an open list item
abbrev pub ends_items_node : GrowingTree → ℕ → Bool
ends_items_node t n = is_one t special n && not (is_one t crossed_by_items n)

-- the list items that one with that name closes
abbrev pub item_names : Name → List Name
item_names Name.Li = Name.Li ∷ []
item_names _ = Name.Dd ∷ Name.Dt ∷ []

abbrev pub item_texts : Name → List (List ℕ)
item_texts Name.Li = codes "li" ∷ []
item_texts _ = codes "dd" ∷ codes "dt" ∷ []
