-- The tree under construction with what points into it (13.2.4.2 to 13.2.4.4), and what is done to it: elements are searched and
-- popped, and nodes are inserted (13.2.6.1). The list of active formatting elements is in Formatting.antt.
use Rattle.std.specs.Prelude.{Bool, List, None, Option, Some, [], bytes_eq, codes, cond, false, filter, length, map, not, suc, true}
use Rattle.std.specs.Prelude.{unwrap_or, ℕ, ◌&&◌, ◌++◌, ◌||◌, ◌∷◌}
use Rattle.std.specs.Char.{to_ascii_lowercase}
use Rattle.std.specs.List.{list_any}
use Rattle.std.specs.Option.{option_map_or}
use Rattle.standard_trees.specs.RuleWords.{ButtonScope, ListItemScope, Scope, ScopeKind, TableScope}
use Rattle.standard_trees.specs.TreeStore.{Before, CommentNode, ContentsNode, DoctypeNode, DocumentNode, ElementNode, EndOf, Html, Kind}
use Rattle.standard_trees.specs.TreeStore.{MathMl, Node, NodeAttr, Place, Space, Svg, TextNode, attrs_in, changed_at, contents_in}
use Rattle.standard_trees.specs.TreeStore.{is_document, is_html, key_in, leaf, local_in, node_at, node_before, parent_of, put_at, space_in}
use Rattle.standard_trees.specs.TreeStore.{text_in, without}
use Rattle.standard_trees.specs.NameLists.{button_scope, fostering_names, html_encodings, html_points, list_item_scope, scope, table_scope}
use Rattle.standard_trees.specs.NameLists.{text_points}

-- an entry of the list of active formatting elements: a marker, or an element
pub data Entry : Type 0 where
  Marker : Entry
  Formatting : ℕ → Entry

-- the form element pointer; a form element that is the context element of a fragment, or above it, is no node of the tree
pub data FormPointer : Type 0 where
  NoForm FormOfContext : FormPointer
  FormAt : ℕ → FormPointer

pub record GrowingTree : Type 0 where
  pub nodes : List Node  -- node 0 is the Document
  pub stack : List ℕ  -- the stack of open elements, the current node first
  pub listed : List Entry  -- the list of active formatting elements, the last entry first
  pub head : Option ℕ  -- the head element pointer
  pub form : FormPointer
  pub found : Option ℕ  -- the element that "find listed" found
  pub fostering : Bool  -- foster parenting is enabled
  pub context : Option Kind  -- of a fragment, the context element

-- ---- texts and names

abbrev pub is_among : List ℕ → List (List ℕ) → Bool
is_among name names = list_any (bytes_eq name) names

abbrev pub lower : List ℕ → List ℕ
lower text = map to_ascii_lowercase text

-- ---- nodes and the stack

abbrev pub kind_of : GrowingTree → ℕ → Kind
kind_of t n = (node_at t.nodes n).kind

abbrev pub key : GrowingTree → ℕ → List ℕ
key t n = key_in (kind_of t n)

abbrev pub is_named : List (List ℕ) → Kind → Bool
is_named names kind = is_among (key_in kind) names

-- node n is an element with one of these names
abbrev pub is_one : GrowingTree → List (List ℕ) → ℕ → Bool
is_one t names n = is_named names (kind_of t n)

abbrev pub top : List ℕ → ℕ
top [] = 0
top (n ∷ ns) = n

-- "the current node is the bottommost node in this stack of open elements"
abbrev pub current : GrowingTree → ℕ
current t = top t.stack

abbrev pub is_single : List ℕ → Bool
is_single (n ∷ []) = true
is_single _ = false

-- "the adjusted current node is the context element if the parser was created as part of the HTML fragment parsing algorithm and the stack
-- of open elements has only one element in it (fragment case); otherwise, the adjusted current node is the current node"
abbrev pub adjusted_current : GrowingTree → Kind
adjusted_current t = cond (is_single t.stack) (unwrap_or t.context (kind_of t (current t))) (kind_of t (current t))

-- the topmost element of the stack, `html`
abbrev pub topmost : List ℕ → ℕ
topmost [] = 0
topmost (n ∷ []) = n
topmost (n ∷ m ∷ ns) = topmost (m ∷ ns)

-- the second element of the stack, which was opened after `html`
abbrev pub second : List ℕ → Option ℕ
second [] = None
second (n ∷ []) = None
second (n ∷ m ∷ []) = Some n
second (n ∷ m ∷ k ∷ ns) = second (m ∷ k ∷ ns)

abbrev pub with_stack : GrowingTree → List ℕ → GrowingTree
with_stack t stack = record t { stack = stack }

abbrev pub pushed : ℕ → GrowingTree → GrowingTree
pushed n t = record t { stack = n ∷ t.stack }

abbrev pub unstacked : ℕ → GrowingTree → GrowingTree
unstacked n t = record t { stack = without n t.stack }

-- the stack once an element that passes the test has been popped
abbrev pub past : (ℕ → Bool) → List ℕ → List ℕ
past test [] = []
past test (n ∷ ns) = elim (test n) [ true ↦ ns | false ↦ past test ns ]

-- the stack once the elements that pass the test are popped, up to the first that does not
abbrev pub beyond : (ℕ → Bool) → List ℕ → List ℕ
beyond test [] = []
beyond test (n ∷ ns) = elim (test n) [ true ↦ beyond test ns | false ↦ n ∷ ns ]

-- "pop elements from the stack of open elements until one of these has been popped"
abbrev pub popped_until : List (List ℕ) → GrowingTree → GrowingTree
popped_until names t = with_stack t (past (is_one t names) t.stack)

-- pop elements until the current node is one of these: "clear the stack back to a table context" and the like
abbrev pub popped_up_to : List (List ℕ) → GrowingTree → GrowingTree
popped_up_to names t = with_stack t (beyond (λ n. not (is_one t names n)) t.stack)

-- "generate implied end tags": while the current node is one of `names` and none of `but`, it is popped
abbrev pub implied_of : List (List ℕ) → List (List ℕ) → GrowingTree → GrowingTree
implied_of names but t = with_stack t (beyond (λ n. is_one t names n && not (is_one t but n)) t.stack)

-- ---- scopes (13.2.4.2)

-- "has an element in the specific scope": from the current node up, a wanted element comes before one that ends the scope
abbrev pub in_scope : {X : Type 0} → (X → Bool) → (X → Bool) → List X → Bool
in_scope wanted ends [] = false
in_scope wanted ends (n ∷ ns) = wanted n || (not (ends n) && in_scope wanted ends ns)

abbrev pub ends_scope : ScopeKind → GrowingTree → ℕ → Bool
ends_scope Scope t n = is_one t scope n
ends_scope ListItemScope t n = is_one t list_item_scope n
ends_scope ButtonScope t n = is_one t button_scope n
ends_scope TableScope t n = is_one t table_scope n

abbrev pub has_in_scope : ScopeKind → List (List ℕ) → GrowingTree → Bool
has_in_scope kind names t = in_scope (is_one t names) (ends_scope kind t) t.stack

-- ---- the appropriate place for inserting a node (13.2.6.1)

-- where foster parenting puts a node: behind the last child of the last template, if that was opened after the last table; before the
-- table, if the table has a parent; else behind the last child of the element above the table on the stack; in the first element, if
-- there is no table
abbrev pub foster_place : GrowingTree → List ℕ → Place
foster_place t [] = EndOf 0
foster_place t (n ∷ []) = EndOf n
foster_place t (n ∷ m ∷ ns) =
    elim (is_one t (codes "template" ∷ []) n) [
      | true ↦ EndOf n
      | false ↦ elim (is_one t (codes "table" ∷ []) n) [
        | true ↦ elim (parent_of t.nodes n) [ Some p ↦ Before p n | None ↦ EndOf m ]
        | false ↦ foster_place t (m ∷ ns)
      ]
    ]

-- "if the adjusted insertion location is inside a template element, let it instead be inside the template element's template contents,
-- after its last child"
abbrev pub in_contents : GrowingTree → Place → Place
in_contents t (EndOf p) = EndOf (unwrap_or (contents_in (kind_of t p)) p)
in_contents t (Before p m) = elim (contents_in (kind_of t p)) [ Some k ↦ EndOf k | None ↦ Before p m ]

-- the appropriate place, with `target` as the override target
abbrev pub place_in : GrowingTree → ℕ → Place
place_in t target =
    in_contents t (elim (t.fostering && is_one t fostering_names target) [ true ↦ foster_place t t.stack | false ↦ EndOf target ])

abbrev pub place : GrowingTree → Place
place t = place_in t (current t)

-- ---- creating and inserting (13.2.6.1)

-- the number of the next node
abbrev pub fresh : GrowingTree → ℕ
fresh t = length t.nodes

abbrev pub created : Kind → GrowingTree → GrowingTree
created kind t = record t { nodes = t.nodes ++ leaf kind ∷ [] }

abbrev pub put : ℕ → Place → GrowingTree → GrowingTree
put n spot t = record t { nodes = put_at n spot t.nodes }

abbrev pub created_at : Place → Kind → GrowingTree → GrowingTree
created_at spot kind t = put (fresh t) spot (created kind t)

abbrev pub is_template : Space → List ℕ → Bool
is_template Html name = bytes_eq name (codes "template")
is_template Svg name = false
is_template MathMl name = false

-- "create an element for a token"; behind a template element the node of its contents
abbrev pub created_element : Space → List ℕ → List NodeAttr → GrowingTree → GrowingTree
created_element space name attrs t =
    elim (is_template space name) [
      | true ↦ created ContentsNode (created (ElementNode space name attrs (Some (suc (fresh t)))) t)
      | false ↦ created (ElementNode space name attrs None) t
    ]

abbrev pub inserted_at : Place → Space → List ℕ → List NodeAttr → GrowingTree → GrowingTree
inserted_at spot space name attrs t = pushed (fresh t) (put (fresh t) spot (created_element space name attrs t))

-- "insert a foreign element"; in the HTML namespace "insert an HTML element"
abbrev pub inserted : Space → List ℕ → List NodeAttr → GrowingTree → GrowingTree
inserted space name attrs t = inserted_at (place t) space name attrs t

abbrev pub place_is_document : GrowingTree → Place → Bool
place_is_document t (EndOf p) = is_document (kind_of t p)
place_is_document t (Before p m) = is_document (kind_of t p)

abbrev pub with_text : GrowingTree → ℕ → List ℕ → GrowingTree
with_text t n text = record t { nodes = changed_at (λ node. record node { kind = TextNode text }) t.nodes n }

-- a character behind the node that comes just before the place: in that node if it is a text, and else in a text of its own
abbrev pub text_behind : Option ℕ → Place → ℕ → GrowingTree → GrowingTree
text_behind None spot c t = created_at spot (TextNode (c ∷ [])) t
text_behind (Some n) spot c t =
    elim (text_in (kind_of t n)) [ Some text ↦ with_text t n (text ++ c ∷ []) | None ↦ created_at spot (TextNode (c ∷ [])) t ]

-- "insert a character"; where the place is in a Document, nothing is done
abbrev pub with_char : ℕ → GrowingTree → GrowingTree
with_char c t =
    elim (place_is_document t (place t)) [ true ↦ t | false ↦ text_behind (node_before t.nodes (place t)) (place t) c t ]

abbrev pub with_chars : List ℕ → GrowingTree → GrowingTree
with_chars [] t = t
with_chars (c ∷ cs) t = with_chars cs (with_char c t)

-- "insert a comment"
abbrev pub with_comment : List ℕ → Place → GrowingTree → GrowingTree
with_comment text spot t = created_at spot (CommentNode text) t

-- ---- the attributes of an element

abbrev pub has_named : List ℕ → List NodeAttr → Bool
has_named name attrs = list_any (λ a. bytes_eq a.name name) attrs

abbrev pub merged : List NodeAttr → List NodeAttr → List NodeAttr
merged attrs new = attrs ++ filter (λ a. not (has_named a.name attrs)) new

abbrev pub with_attrs : List NodeAttr → Kind → Kind
with_attrs new (ElementNode space name attrs contents) = ElementNode space name (merged attrs new) contents
with_attrs new (TextNode text) = TextNode text
with_attrs new (CommentNode text) = CommentNode text
with_attrs new (DoctypeNode doctype) = DoctypeNode doctype
with_attrs new DocumentNode = DocumentNode
with_attrs new ContentsNode = ContentsNode

-- "for each attribute on the token, check to see if the attribute is already present on the element; if it is not, add it"
abbrev pub merged_into : Option ℕ → List NodeAttr → GrowingTree → GrowingTree
merged_into None new t = t
merged_into (Some n) new t = record t { nodes = changed_at (λ node. record node { kind = with_attrs new node.kind }) t.nodes n }

abbrev pub value_of : List ℕ → List NodeAttr → Option (List ℕ)
value_of name [] = None
value_of name (a ∷ attrs) = elim (bytes_eq a.name name) [ true ↦ Some a.value | false ↦ value_of name attrs ]

-- an attribute of that name has one of these values, in any case
abbrev pub has_value : List ℕ → List (List ℕ) → List NodeAttr → Bool
has_value name values attrs = option_map_or (λ value. is_among (lower value) values) (value_of name attrs) false

-- ---- integration points, and elements outside the HTML namespace (13.2.6)

-- "an HTML integration point": these elements of SVG, and MathML's `annotation-xml` with an encoding of HTML
abbrev pub is_html_point : Kind → Bool
is_html_point kind =
    is_named html_points kind ||
    (is_named (codes "math annotation-xml" ∷ []) kind && has_value (codes "encoding") html_encodings (attrs_in kind))

-- an element that is neither a MathML text integration point, nor an HTML integration point, nor in the HTML namespace
abbrev pub is_foreign : GrowingTree → ℕ → Bool
is_foreign t n =
    not (is_html (space_in (kind_of t n))) && not (is_one t text_points n) && not (is_html_point (kind_of t n))

-- the adjusted current node is outside the HTML namespace
abbrev pub in_foreign : GrowingTree → Bool
in_foreign t = not (is_html (space_in (adjusted_current t)))

-- from the current node up, an element whose name in lower case is this comes before every element in the HTML namespace
abbrev pub own_before_html : GrowingTree → List ℕ → List ℕ → Bool
own_before_html t name [] = false
own_before_html t name (n ∷ ns) =
    elim (is_html (space_in (kind_of t n))) [
      | true ↦ false
      | false ↦ bytes_eq (lower (local_in (kind_of t n))) name || own_before_html t name ns
    ]
