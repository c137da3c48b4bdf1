-- What the Document has as its children, whatever tokens come.
use Rattle.std.specs.Prelude.{◌≡◌, ◌++◌, ◌&&◌, ◌||◌, ◌∷◌, [], Bool, List, Some, codes, false, not, true, ℕ}
use Rattle.std.specs.List.{list_all}
use Rattle.standard_tokens.specs.Tokens.{AnEof, Token}
use Rattle.standard_trees.specs.Building.{Building, start, tree_steps}
use Rattle.standard_trees.specs.GrowingTree.{GrowingTree}
use Rattle.standard_trees.specs.TreeStore.{Node, node_at}
use Rattle.standard_order.specs.PageShape.{are_page_parts, child_elements, is_doctype_kind, is_element_kind, is_html_at, is_page_of}
use Rattle.standard_order.specs.PageShape.{uncommented}

-- an element `html`, with or without a doctype before it
abbrev pub is_root_top : List Node → List ℕ → Bool
is_root_top nodes (html ∷ []) = is_html_at nodes (codes "html") html
is_root_top nodes (doctype ∷ html ∷ []) = is_doctype_kind (node_at nodes doctype).kind && is_html_at nodes (codes "html") html
is_root_top nodes [] = false
is_root_top nodes (one ∷ two ∷ three ∷ others) = false

-- the Document has at most one doctype, then one element `html`, and comments
abbrev pub has_one_root : GrowingTree → Bool
has_one_root t = is_root_top t.nodes (uncommented t.nodes 0)

-- That is so of each page: of what tokens come to of which the end of the page is the last.
abbrev pub PagesHaveOneRoot : Type 0
PagesHaveOneRoot = (depth : ℕ) (scripting : Bool) (tokens : List Token) (end : Building) →
    tree_steps depth (start scripting) (tokens ++ AnEof ∷ []) ≡ Some end → has_one_root end.tree ≡ true

-- each element that is a child of the Document has the parts of a page: a head and a body; or a head, a frameset, and any others
abbrev pub roots_have_parts : GrowingTree → Bool
roots_have_parts t =
    list_all (λ n. not (is_element_kind (node_at t.nodes n).kind) || are_page_parts t.nodes (child_elements t.nodes n))
    (node_at t.nodes 0).children

-- Each page has the shape of one: a doctype or none, and an element `html`, whose child elements are a head and a body; or a head, a
-- frameset, and any others.
abbrev pub PagesHaveTheirShape : Type 0
PagesHaveTheirShape = (depth : ℕ) (scripting : Bool) (tokens : List Token) (end : Building) →
    tree_steps depth (start scripting) (tokens ++ AnEof ∷ []) ≡ Some end → is_page_of end.tree ≡ true
