-- The shape of a page.
use Rattle.std.specs.Prelude.{◌≡◌, ℕ, Bool, true, false, not, ◌==◌, ◌&&◌, ◌||◌, List, [], ◌∷◌, Option, codes, filter, length}
use Rattle.std.specs.Option.{option_map_or}
use Rattle.std.specs.Str.{bytes_eq}
use Rattle.dom_nodes.specs.Kinds.{is_comment, is_doctype}
use Rattle.dom_nodes.specs.Names.{same_namespace}
use Rattle.dom_nodes.specs.declared.name.Namespace.TheVariants.{Html}
use Rattle.dom_links.specs.Forest.{Forest, children_of}
use Rattle.dom_links.specs.ListMoves.{element_at}
use Rattle.dom_trees.specs.Views.{node_is, node_qual_name}

-- whether a node is an HTML element with that name
abbrev pub is_html : Forest → ℕ → List ℕ → Bool
is_html forest n name = option_map_or (λ known. same_namespace known.ns Html && bytes_eq known.local name) (node_qual_name forest n) false

-- the children of a node that are not comments
abbrev pub besides_comments : Forest → ℕ → List ℕ
besides_comments forest n = filter (λ child. not (node_is is_comment forest child)) (children_of forest n)

-- the children of a node that are elements
abbrev pub elements_of : Forest → ℕ → List ℕ
elements_of forest n = filter (element_at forest) (children_of forest n)

-- a body and nothing else, or a frameset, which any elements may follow
abbrev pub is_contents : Forest → ℕ → List ℕ → Bool
is_contents forest n others = (is_html forest n (codes "body") && length others == 0) || is_html forest n (codes "frameset")

-- a head, and then a body or a frameset
abbrev pub are_parts : Forest → List ℕ → Bool
are_parts forest (head ∷ contents ∷ others) = is_html forest head (codes "head") && is_contents forest contents others
are_parts forest _ = false

-- an element `html` whose child elements are a head and a body, or a head, a frameset and any others
abbrev pub has_parts : Forest → ℕ → Bool
has_parts forest n = is_html forest n (codes "html") && are_parts forest (elements_of forest n)

-- such an element, with or without a doctype before it
abbrev pub is_top : Forest → List ℕ → Bool
is_top forest (html ∷ []) = has_parts forest html
is_top forest (doctype ∷ html ∷ []) = node_is is_doctype forest doctype && has_parts forest html
is_top forest _ = false

abbrev pub is_page : Forest → Bool
is_page forest = is_top forest (besides_comments forest 0)

-- A page: the root has at most one doctype, then one element `html`, and comments. The child elements of `html` are a head and a
-- body; or a head, a frameset, and the `noframes` and reconstructed formatting elements that tree construction can leave after
-- it.
abbrev pub IsPage : Forest → Type 0
IsPage forest = is_page forest ≡ true

-- the result is an HTML element with that name
abbrev pub IsFound : Forest → List ℕ → Option ℕ → Type 0
IsFound forest name found = option_map_or (λ n. is_html forest n name) found false ≡ true
