-- Tests of a node's children, and of the texts at and below it.
use Rattle.std.specs.Prelude.{◌≡◌, ℕ, Bool, true, false, ◌||◌, ◌&&◌, not, List, [], ◌∷◌, ◌++◌, MatchOption, Option, drop, length, slice_get, take}
use Rattle.std.specs.Borrow.{Bor}
use Rattle.std.specs.List.{flat_map, list_all, list_any}
use Rattle.std.specs.Option.{option_map_or}
use Rattle.dom_nodes.specs.declared.node_data.NodeData.{NodeData}
use Rattle.dom_nodes.specs.declared.node_data.NodeData.TheVariants.{Text}
use Rattle.dom_links.specs.Forest.{Forest, children_of}
use Rattle.dom_links.specs.Texts.{text_at, text_of}
use Rattle.dom_links.specs.Trees.{descendants_in_order}
use Rattle.dom_trees.specs.Views.{is_filled_text}
use Rattle.dom_selectors.specs.Comparisons.{begins_with, has_within}
use Rattle.dom_nodes.specs.declared.case_sensitivity.CaseSensitivity.TheVariants.{CaseSensitive}
use Rattle.dom_links.specs.ListMoves.{element_at}

-- the node is a text that isn't blank
abbrev pub filled_at : Forest → ℕ → Bool
filled_at forest n = option_map_or is_filled_text (slice_get forest.content n) false

-- the node is an element without child elements and without a child text that isn't blank
abbrev pub empty_at : Forest → ℕ → Bool
empty_at forest n = element_at forest n && list_all (λ child. not (element_at forest child || filled_at forest child)) (children_of forest n)

abbrev pub is_lone : (ℕ → Bool) → List ℕ → Bool
is_lone p [] = false
is_lone p (child ∷ []) = p child
is_lone p (child ∷ other ∷ children) = false

-- the node has exactly one child, a text that isn't blank
abbrev pub only_text_at : Forest → ℕ → Bool
only_text_at forest n = is_lone (filled_at forest) (children_of forest n)

abbrev pub text_contains : List ℕ → NodeData → Bool
text_contains inner (Text contents) = has_within CaseSensitive contents inner
text_contains inner _ = false

abbrev pub contains_at : Forest → List ℕ → ℕ → Bool
contains_at forest inner n = option_map_or (text_contains inner) (slice_get forest.content n) false

-- one of the texts at or below the node contains the text
abbrev pub has_text_at : Forest → List ℕ → ℕ → Bool
has_text_at forest inner n = list_any (contains_at forest inner) (n ∷ descendants_in_order forest n)

-- the texts at and below the node, concatenated, contain the text
abbrev pub joined_contains_at : Forest → List ℕ → ℕ → Bool
joined_contains_at forest inner n = has_within CaseSensitive (text_of forest n) inner

-- an occurrence of `inner` starts in this text, and may continue in the text that follows
abbrev pub begins_among : List ℕ → List ℕ → List ℕ → Bool
begins_among [] next inner = false
begins_among (a ∷ more) next inner = begins_with CaseSensitive (a ∷ (more ++ next)) inner || begins_among more next inner

-- the texts of the nodes, concatenated
abbrev pub texts_at : Forest → List ℕ → List ℕ
texts_at forest ns = flat_map (text_at forest) ns

-- What is left of `inner` after this text, if the two agree as far as both go; `None` if they differ.
abbrev pub IsLeftBehind : List ℕ → List ℕ → Option (Bor (List ℕ)) → Type 0
IsLeftBehind text inner left = MatchOption left
    (begins_with CaseSensitive text (take (length text) inner) ≡ false)
    (λ left. (begins_with CaseSensitive text (take (length text) inner) ≡ true) × (left.now ≡ drop (length text) inner))
