-- What is left of a tree that is sanitized.
use Rattle.std.specs.Prelude.{ℕ, ◌≡◌, ◌||◌, ◌≢◌, Bool, true, false, List, [], ◌∷◌, ◌++◌, None, codes, is_some, map, slice_get, if◌then◌else◌}
use Rattle.std.specs.Borrow.{Bor}
use Rattle.std.specs.Option.{option_map, option_map_or}
use Rattle.std.specs.Str.{bytes_eq}
use Rattle.dom_nodes.specs.Elements.{Element}
use Rattle.dom_nodes.specs.declared.node_data.NodeData.{NodeData}
use Rattle.dom_nodes.specs.declared.node_data.NodeData.TheVariants.{Element as AnElement, Text}
use Rattle.dom_nodes.specs.Changes.{only_names, with_attrs}
use Rattle.dom_nodes.specs.Words.{is_among}
use Rattle.dom_links.specs.Forest.{Forest, children_of, parent, run_of}
use Rattle.dom_links.specs.Lists.{is_member}
use Rattle.dom_links.specs.Trees.{descendants_in_order}
use Rattle.dom_sanitize.specs.declared.plan.Fate.{Fate}
use Rattle.dom_sanitize.specs.declared.plan.Fate.TheVariants.{Stay, Unwrap, Vanish}
use Rattle.dom_sanitize.specs.declared.sanitize.Allow.{Allow}

-- The names in the lists of an `Allow`.
pub record Lists : Type 0 where
  pub elements : List (List ℕ)
  pub attrs : List (List ℕ)
  pub drop : List (List ℕ)

-- The names of a borrowed list.
abbrev pub listed : Bor (List (Bor (List ℕ))) → List (List ℕ)
listed names = map (λ name. name.now) names.now

-- The names in the lists of this `Allow`.
abbrev pub lists_of : Allow → Lists
lists_of allow = record { elements = listed allow.elements; attrs = listed allow.attrs; drop = listed allow.drop }

-- Whether the element is named `template` or has template contents.
abbrev pub is_template : Element → Bool
is_template e = bytes_eq e.name.local (codes "template") || is_some e.template_contents

-- What becomes of an element: a template and a dropped element are removed with everything below
-- them (`Vanish`); otherwise an allowed element stays; any other one is replaced by what is left of
-- its children (`Unwrap`).
abbrev pub element_fate : Lists → Element → Fate
element_fate allow e =
    if is_template e || is_among e.name.local allow.drop then Vanish
    else if is_among e.name.local allow.elements then Stay else Unwrap

-- What becomes of a node: a text stays, an element as said above, and all other nodes are removed.
abbrev pub fate_of : Lists → NodeData → Fate
fate_of allow (Text contents) = Stay
fate_of allow (AnElement e) = element_fate allow e
fate_of allow _ = Vanish

-- What becomes of node n.
abbrev pub fate_at : Lists → Forest → ℕ → Fate
fate_at allow forest n = option_map_or (fate_of allow) (slice_get forest.content n) Vanish

-- A node with only its allowed attributes.
abbrev pub kept : Lists → NodeData → NodeData
kept allow content = with_attrs (only_names allow.attrs) content

-- The data and the children of node n are unchanged.
pub record IsLeft (old new : Forest) (n : ℕ) : Type 0 where
  pub content : slice_get new.content n ≡ slice_get old.content n
  pub children : children_of new n ≡ children_of old n

-- A list of siblings of the old forest becomes a list of siblings of the new one. A node that stays
-- has its allowed attributes, and its children become what its old children become. A node that is
-- removed is unchanged with everything below it, and isn't in the new list. An unwrapped element
-- has no children left, and what they become is in its place.
pub data Clean (allow : Lists) (old new : Forest) : List ℕ → List ℕ → Type 0 where
  nothing : Clean allow old new [] []
  stays : (n : ℕ) (ns ms : List ℕ) → fate_at allow old n ≡ Stay →
      slice_get new.content n ≡ option_map (kept allow) (slice_get old.content n) →
      Clean allow old new (children_of old n) (children_of new n) →
      Clean allow old new ns ms → Clean allow old new (n ∷ ns) (n ∷ ms)
  is_unwrapped : (n : ℕ) (ns ks ms : List ℕ) → fate_at allow old n ≡ Unwrap →
      slice_get new.content n ≡ slice_get old.content n → children_of new n ≡ [] →
      Clean allow old new (children_of old n) ks →
      Clean allow old new ns ms → Clean allow old new (n ∷ ns) (ks ++ ms)
  vanishes : (n : ℕ) (ns ms : List ℕ) → fate_at allow old n ≡ Vanish →
      ((m : ℕ) → is_member m (n ∷ descendants_in_order old n) ≡ true → IsLeft old new m) →
      Clean allow old new ns ms → Clean allow old new (n ∷ ns) ms

-- The forest is sanitized below its root. The root's own data, and all nodes that weren't below the
-- root, are unchanged. Each node that was detached is a run of its own.
pub record Cleaned (allow : Lists) (old new : Forest) : Type 0 where
  pub below : Clean allow old new (children_of old 0) (children_of new 0)
  pub root : slice_get new.content 0 ≡ slice_get old.content 0
  pub elsewhere : (n : ℕ) → n ≢ 0 → is_member n (descendants_in_order old 0) ≡ false → IsLeft old new n
  pub beside : (n : ℕ) → is_member n (descendants_in_order old 0) ≡ false → run_of new n ≡ run_of old n
  pub alone : (n : ℕ) → is_member n (descendants_in_order old 0) ≡ true → parent new n ≡ None → run_of new n ≡ n ∷ []
