-- The tree that is being built (13.2.6.1): nodes that are told apart by their numbers, each with the list of its children.
use Rattle.std.specs.Prelude.{Bool, List, None, Option, Some, [], codes, false, filter, map, nat_eq, not, suc, true, zero, ℕ, ◌++◌, ◌∷◌}
use Rattle.std.specs.List.{list_any}
use Rattle.standard_tokens.specs.Tokens.{Doctype}

pub data Space : Type 0 where
  Html Svg MathMl : Space

-- the namespace of an attribute
pub data AttrSpace : Type 0 where
  NoSpace XLink Xml XmlNs : AttrSpace

pub record NodeAttr : Type 0 where
  pub space : AttrSpace
  pub name : List ℕ  -- the local name
  pub value : List ℕ

pub data Kind : Type 0 where
  DocumentNode ContentsNode : Kind
  DoctypeNode : Doctype → Kind
  TextNode CommentNode : List ℕ → Kind
  ElementNode : Space → List ℕ → List NodeAttr → Option ℕ → Kind  -- namespace, local name, attributes, node of the template contents

pub record Node : Type 0 where
  pub kind : Kind
  pub children : List ℕ

abbrev pub leaf : Kind → Node
leaf kind = record { kind = kind; children = [] }

-- node n; the numbers of all nodes lie below the length of the list
abbrev pub node_at : List Node → ℕ → Node
node_at [] n = leaf ContentsNode
node_at (node ∷ nodes) zero = node
node_at (node ∷ nodes) (suc n) = node_at nodes n

abbrev pub changed_at : (Node → Node) → List Node → ℕ → List Node
changed_at f [] n = []
changed_at f (node ∷ nodes) zero = f node ∷ nodes
changed_at f (node ∷ nodes) (suc n) = node ∷ changed_at f nodes n

abbrev pub is_member : ℕ → List ℕ → Bool
is_member n ns = list_any (nat_eq n) ns

abbrev pub without : ℕ → List ℕ → List ℕ
without n ns = filter (λ m. not (nat_eq m n)) ns

-- the first node, counted from i, among whose children n is
abbrev pub parent_from : ℕ → ℕ → List Node → Option ℕ
parent_from i n [] = None
parent_from i n (node ∷ nodes) = elim (is_member n node.children) [ true ↦ Some i | false ↦ parent_from (suc i) n nodes ]

abbrev pub parent_of : List Node → ℕ → Option ℕ
parent_of nodes n = parent_from 0 n nodes

-- n without a parent
abbrev pub removed : ℕ → List Node → List Node
removed n nodes = map {A = Node} (λ node. record node { children = without n node.children }) nodes

-- a place for a node: behind the last child of a node, or before one of its children
pub data Place : Type 0 where
  EndOf : ℕ → Place
  Before : ℕ → ℕ → Place

abbrev pub placed_before : ℕ → ℕ → List ℕ → List ℕ
placed_before n m [] = n ∷ []
placed_before n m (k ∷ ks) = elim (nat_eq k m) [ true ↦ n ∷ k ∷ ks | false ↦ k ∷ placed_before n m ks ]

-- n at a place, and no longer where it was
abbrev pub put_at : ℕ → Place → List Node → List Node
put_at n (EndOf p) nodes = changed_at (λ node. record node { children = node.children ++ n ∷ [] }) (removed n nodes) p
put_at n (Before p m) nodes = changed_at (λ node. record node { children = placed_before n m node.children }) (removed n nodes) p

abbrev pub last_of : List ℕ → Option ℕ
last_of [] = None
last_of (n ∷ []) = Some n
last_of (n ∷ m ∷ ns) = last_of (m ∷ ns)

abbrev pub before_of : ℕ → Option ℕ → List ℕ → Option ℕ
before_of m seen [] = seen
before_of m seen (n ∷ ns) = elim (nat_eq n m) [ true ↦ seen | false ↦ before_of m (Some n) ns ]

-- the node immediately before a place
abbrev pub node_before : List Node → Place → Option ℕ
node_before nodes (EndOf p) = last_of (node_at nodes p).children
node_before nodes (Before p m) = before_of m None (node_at nodes p).children

-- ---- elements

abbrev pub key_of : Space → List ℕ → List ℕ
key_of Html name = name
key_of Svg name = codes "svg " ++ name
key_of MathMl name = codes "math " ++ name

-- an element's name as the rules have it; of another node, nothing
abbrev pub key_in : Kind → List ℕ
key_in (ElementNode space name attrs contents) = key_of space name
key_in (TextNode text) = []
key_in (CommentNode text) = []
key_in (DoctypeNode doctype) = []
key_in DocumentNode = []
key_in ContentsNode = []

abbrev pub local_in : Kind → List ℕ
local_in (ElementNode space name attrs contents) = name
local_in (TextNode text) = []
local_in (CommentNode text) = []
local_in (DoctypeNode doctype) = []
local_in DocumentNode = []
local_in ContentsNode = []

abbrev pub attrs_in : Kind → List NodeAttr
attrs_in (ElementNode space name attrs contents) = attrs
attrs_in (TextNode text) = []
attrs_in (CommentNode text) = []
attrs_in (DoctypeNode doctype) = []
attrs_in DocumentNode = []
attrs_in ContentsNode = []

abbrev pub contents_in : Kind → Option ℕ
contents_in (ElementNode space name attrs contents) = contents
contents_in (TextNode text) = None
contents_in (CommentNode text) = None
contents_in (DoctypeNode doctype) = None
contents_in DocumentNode = None
contents_in ContentsNode = None

abbrev pub space_in : Kind → Space
space_in (ElementNode space name attrs contents) = space
space_in (TextNode text) = Html
space_in (CommentNode text) = Html
space_in (DoctypeNode doctype) = Html
space_in DocumentNode = Html
space_in ContentsNode = Html

abbrev pub is_document : Kind → Bool
is_document DocumentNode = true
is_document ContentsNode = false
is_document (DoctypeNode doctype) = false
is_document (TextNode text) = false
is_document (CommentNode text) = false
is_document (ElementNode space name attrs contents) = false

abbrev pub text_in : Kind → Option (List ℕ)
text_in (TextNode text) = Some text
text_in DocumentNode = None
text_in ContentsNode = None
text_in (DoctypeNode doctype) = None
text_in (CommentNode text) = None
text_in (ElementNode space name attrs contents) = None

abbrev pub is_html : Space → Bool
is_html Html = true
is_html Svg = false
is_html MathMl = false

abbrev pub is_mathml : Space → Bool
is_mathml Html = false
is_mathml Svg = false
is_mathml MathMl = true

abbrev pub same_space : AttrSpace → AttrSpace → Bool
same_space NoSpace NoSpace = true
same_space XLink XLink = true
same_space Xml Xml = true
same_space XmlNs XmlNs = true
same_space _ _ = false

-- ---- the tree as a value

-- a list of sibling nodes: empty, or its first node and the siblings after that; of an element the template contents and the children too
pub data Trees : Type 0 where
  no_trees : Trees
  doctype_tree : Doctype → Trees → Trees
  text_tree comment_tree : List ℕ → Trees → Trees
  element_tree : Space → List ℕ → List NodeAttr → Trees → Trees → Trees → Trees

abbrev pub contents_tree : (List ℕ → Trees) → List Node → Option ℕ → Trees
contents_tree below nodes None = no_trees
contents_tree below nodes (Some n) = below (node_at nodes n).children

abbrev pub tree_of_node : (List ℕ → Trees) → List Node → Node → Trees → Trees
tree_of_node below nodes node later =
    elim node.kind [
      | ElementNode space name attrs contents ↦
          element_tree space name attrs (contents_tree below nodes contents) (below node.children) later
      | TextNode text ↦ text_tree text later
      | CommentNode text ↦ comment_tree text later
      | DoctypeNode doctype ↦ doctype_tree doctype later
      | DocumentNode ↦ later
      | ContentsNode ↦ later
    ]

abbrev pub trees_from : (List ℕ → Trees) → List Node → List ℕ → Trees
trees_from below nodes [] = no_trees
trees_from below nodes (n ∷ ns) = tree_of_node below nodes (node_at nodes n) (trees_from below nodes ns)

-- the trees of these nodes, down to a depth
abbrev pub trees_of : ℕ → List Node → List ℕ → Trees
trees_of zero nodes ns = no_trees
trees_of (suc depth) nodes ns = trees_from (trees_of depth nodes) nodes ns
