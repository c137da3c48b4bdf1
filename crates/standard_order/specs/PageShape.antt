-- The shape of a page, as a test of the tree that standard_trees builds.
use Rattle.std.specs.Prelude.{◌==◌, ◌&&◌, ◌||◌, Bool, List, [], ◌∷◌, codes, false, filter, length, not, true, ℕ}
use Rattle.std.specs.Str.{bytes_eq}
use Rattle.standard_trees.specs.GrowingTree.{GrowingTree}
use Rattle.standard_trees.specs.TreeStore.{CommentNode, ContentsNode, DoctypeNode, DocumentNode, ElementNode, Html, Kind, MathMl, Node}
use Rattle.standard_trees.specs.TreeStore.{Svg, TextNode, node_at}

abbrev pub is_comment_kind : Kind → Bool
is_comment_kind (CommentNode text) = true
is_comment_kind (TextNode text) = false
is_comment_kind (DoctypeNode d) = false
is_comment_kind (ElementNode space name attrs contents) = false
is_comment_kind DocumentNode = false
is_comment_kind ContentsNode = false

abbrev pub is_doctype_kind : Kind → Bool
is_doctype_kind (DoctypeNode d) = true
is_doctype_kind (TextNode text) = false
is_doctype_kind (CommentNode text) = false
is_doctype_kind (ElementNode space name attrs contents) = false
is_doctype_kind DocumentNode = false
is_doctype_kind ContentsNode = false

abbrev pub is_element_kind : Kind → Bool
is_element_kind (ElementNode space name attrs contents) = true
is_element_kind (TextNode text) = false
is_element_kind (CommentNode text) = false
is_element_kind (DoctypeNode d) = false
is_element_kind DocumentNode = false
is_element_kind ContentsNode = false

-- an HTML element with that name
abbrev pub is_html_kind : List ℕ → Kind → Bool
is_html_kind name (ElementNode Html local attrs contents) = bytes_eq local name
is_html_kind name (ElementNode Svg local attrs contents) = false
is_html_kind name (ElementNode MathMl local attrs contents) = false
is_html_kind name (TextNode text) = false
is_html_kind name (CommentNode text) = false
is_html_kind name (DoctypeNode d) = false
is_html_kind name DocumentNode = false
is_html_kind name ContentsNode = false

abbrev pub is_html_at : List Node → List ℕ → ℕ → Bool
is_html_at nodes name n = is_html_kind name (node_at nodes n).kind

-- the children of a node that are not comments
abbrev pub uncommented : List Node → ℕ → List ℕ
uncommented nodes n = filter (λ child. not (is_comment_kind (node_at nodes child).kind)) (node_at nodes n).children

-- the children of a node that are elements
abbrev pub child_elements : List Node → ℕ → List ℕ
child_elements nodes n = filter (λ child. is_element_kind (node_at nodes child).kind) (node_at nodes n).children

-- a body and nothing else, or a frameset, which any elements may follow
abbrev pub is_body_or_frameset : List Node → ℕ → List ℕ → Bool
is_body_or_frameset nodes n others = (is_html_at nodes (codes "body") n && length others == 0) || is_html_at nodes (codes "frameset") n

-- a head, and then a body or a frameset
abbrev pub are_page_parts : List Node → List ℕ → Bool
are_page_parts nodes (head ∷ contents ∷ others) = is_html_at nodes (codes "head") head && is_body_or_frameset nodes contents others
are_page_parts nodes [] = false
are_page_parts nodes (head ∷ []) = false

-- an element `html` with these parts
abbrev pub has_page_parts : List Node → ℕ → Bool
has_page_parts nodes n = is_html_at nodes (codes "html") n && are_page_parts nodes (child_elements nodes n)

-- such an element, with or without a doctype before it
abbrev pub is_page_top : List Node → List ℕ → Bool
is_page_top nodes (html ∷ []) = has_page_parts nodes html
is_page_top nodes (doctype ∷ html ∷ []) = is_doctype_kind (node_at nodes doctype).kind && has_page_parts nodes html
is_page_top nodes [] = false
is_page_top nodes (one ∷ two ∷ three ∷ others) = false

-- The Document has at most one doctype, then one element `html`, and comments. The child elements of `html` are a head and a body; or a
-- head, a frameset, and any others.
abbrev pub is_page_of : GrowingTree → Bool
is_page_of t = is_page_top t.nodes (uncommented t.nodes 0)
