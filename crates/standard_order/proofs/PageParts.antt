-- A Document with one element `html`, which has the parts of a page, has the shape of a page.
use Rattle.std.specs.Prelude.{◌≡◌, ◌&&◌, ◌||◌, refl, ℕ, Bool, true, false, not, List, [], ◌∷◌, codes, cond, filter}
use Rattle.std.specs.List.{list_all}
use mathlib.Core.Path.{◌∙◌, sym, ap}
use Rattle.standard_trees.specs.GrowingTree.{GrowingTree}
use Rattle.standard_trees.specs.TreeStore.{CommentNode, ContentsNode, DoctypeNode, DocumentNode, ElementNode, Kind, Node, TextNode, node_at}
use Rattle.standard_order.specs.PageShape.{are_page_parts, child_elements, has_page_parts, is_comment_kind, is_doctype_kind, is_element_kind, is_html_at}
use Rattle.standard_order.specs.PageShape.{is_html_kind, is_page_of, is_page_top, uncommented}
use Rattle.standard_order.specs.PageTops.{has_one_root, is_root_top, roots_have_parts}
use Rattle.standard_order.proofs.StandingStacks.{both, never}

html_element : (name : List ℕ) (kind : Kind) → is_html_kind name kind ≡ true → is_element_kind kind ≡ true
html_element name (ElementNode space local attrs contents) h = refl
html_element name (TextNode text) h = never h
html_element name (CommentNode text) h = never h
html_element name (DoctypeNode d) h = never h
html_element name DocumentNode h = never h
html_element name ContentsNode h = never h

all_filtered : (P Q : ℕ → Bool) (ns : List ℕ) → list_all P ns ≡ true → list_all P (filter Q ns) ≡ true
all_filtered P Q [] h = refl
all_filtered P Q (n ∷ ns) h = by (Q n) (both (P n) (list_all P ns) h).0 (all_filtered P Q ns (both (P n) (list_all P ns) h).1)
  where
    by : (x : Bool) → P n ≡ true → list_all P (filter Q ns) ≡ true → list_all P (cond x (n ∷ filter Q ns) (filter Q ns)) ≡ true
    by true one rest = ap (λ y. y && list_all P (filter Q ns)) one ∙ rest
    by false one rest = rest

parts_of : (nodes : List Node) (n : ℕ) → is_html_at nodes (codes "html") n ≡ true →
    not (is_element_kind (node_at nodes n).kind) || are_page_parts nodes (child_elements nodes n) ≡ true → has_page_parts nodes n ≡ true
parts_of nodes n html parts =
    ap (λ x. x && are_page_parts nodes (child_elements nodes n)) html
    ∙ (sym (ap (λ x. not x || are_page_parts nodes (child_elements nodes n)) (html_element (codes "html") (node_at nodes n).kind html)) ∙ parts)

pub shaped_by_parts : (t : GrowingTree) → has_one_root t ≡ true → roots_have_parts t ≡ true → is_page_of t ≡ true
shaped_by_parts t one parts =
    by (uncommented t.nodes 0) one (all_filtered has_parts (λ child. not (is_comment_kind (node_at t.nodes child).kind)) (node_at t.nodes 0).children parts)
  where
    has_parts : ℕ → Bool
    has_parts n = not (is_element_kind (node_at t.nodes n).kind) || are_page_parts t.nodes (child_elements t.nodes n)

    by : (ns : List ℕ) → is_root_top t.nodes ns ≡ true → list_all has_parts ns ≡ true → is_page_top t.nodes ns ≡ true
    by [] h all = never h
    by (html ∷ []) h all = parts_of t.nodes html h (both (has_parts html) true all).0
    by (doctype ∷ html ∷ []) h all =
        let two : (is_doctype_kind (node_at t.nodes doctype).kind ≡ true) × (is_html_at t.nodes (codes "html") html ≡ true) =
        both (is_doctype_kind (node_at t.nodes doctype).kind) (is_html_at t.nodes (codes "html") html) h in
        ap (λ x. x && has_page_parts t.nodes html) two.0
        ∙ parts_of t.nodes html two.1 (both (has_parts html) true (both (has_parts doctype) (list_all has_parts (html ∷ [])) all).1).0
    by (one ∷ two ∷ three ∷ others) h all = never h
