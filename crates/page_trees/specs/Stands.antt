-- How the state of tree construction stands for the one that standard_trees defines (13.2.4). Both number nodes in the order in which
-- they are made, so the id of a node is its number there.
use Rattle.std.specs.Prelude.{◌≡◌, ◌≤◌, All, Bool, IfSome, List, None, Option, Some, [], ◌∷◌, codes, drop, false, encode_utf8_all}
use Rattle.std.specs.Prelude.{if◌then◌else◌, length, map, reverse, string_bytes, true, ℕ, ◌&&◌}
use Rattle.std.specs.Borrow.{Bor}
use Rattle.std.specs.Option.{option_map_or}
use Rattle.standard_tokens.specs.Tokens.{Doctype}
use Rattle.standard_trees.specs.Formatting.{cleared}
use Rattle.standard_trees.specs.GrowingTree.{Entry as StandardEntry, FormAt, FormOfContext, FormPointer as StandardForm, Formatting}
use Rattle.standard_trees.specs.GrowingTree.{GrowingTree, Marker, NoForm, has_in_scope, has_value, is_html_point, is_named, lower}
use Rattle.standard_trees.specs.GrowingTree.{beyond, current, is_foreign, inserted_at, is_one as is_one_of, place, place_is_document}
use Rattle.standard_trees.specs.GrowingTree.{popped_until}
use Rattle.standard_trees.specs.GrowingTree.{with_stack}
use Rattle.standard_trees.specs.NameLists.{html_encodings}
use Rattle.standard_trees.specs.RuleWords.{ButtonScope, ListItemScope, Scope as DefaultScope, ScopeKind, TableScope}
use Rattle.standard_trees.specs.TreeStore.{Before, DocumentNode, ElementNode, EndOf, Kind, Node, NodeAttr, Place, Space, is_member}
use Rattle.standard_trees.specs.TreeStore.{attrs_in, contents_in, is_document, node_at, removed}
use Rattle.dom_links.specs.declared.gap.InsertionPoint.{InsertionPoint}
use Rattle.dom_links.specs.declared.gap.InsertionPoint.TheVariants.{Before as TheBefore, EndOf as TheEndOf}
use Rattle.page_tokens.specs.declared.token.Tag.{Tag}
use Rattle.page_trees.specs.Foreign.{attr_in, is_html_annotation, local_name_in}
use Rattle.page_trees.specs.NameNumbers.{AreNumbered}
use Rattle.page_trees.specs.Names.{name_of, text_of}
use Rattle.page_trees.specs.Placing.{is_a_template}
use Rattle.page_trees.specs.SameNodes.{AreNodes, attr_for, part_for}
use Rattle.page_trees.specs.Sets.{is_an_html_point, is_in_mathml, is_one, local_for, space_of}
use Rattle.page_trees.specs.LateAttrs.{AreNamesOf}
use Rattle.page_trees.specs.TreeState.{Late, TreeState, completed, late_at}
use Rattle.page_trees.specs.declared.formatting.Entry.{Entry}
use Rattle.page_trees.specs.declared.growing.placing.Placing.{Placing}
use Rattle.page_trees.specs.declared.name.Name.{Name}
use Rattle.page_trees.specs.declared.pointers.FormPointer.{FormPointer}
use Rattle.page_trees.specs.declared.sets.Scope.{Scope}
use Rattle.page_trees.specs.declared.stack.ElementNamespace.{ElementNamespace}
use Rattle.page_trees.specs.declared.stack.Open.{Open}

-- ---- open elements

-- the name of a tag: in lower case, and without a space
pub record IsTagName (name : List ℕ) : Type 0 where
  pub lower_case : lower name ≡ name
  pub unspaced : is_member 32 name ≡ false

-- The name of a tag is not in `Name`; this is its text, and these are the bytes of the text.
pub record IsOtherName (name : Name) (bytes text : List ℕ) : Type 0 where
  pub tag : IsTagName text
  pub other : name ≡ Name.Other
  pub unknown : name_of text ≡ Name.Other
  pub spelt : bytes ≡ encode_utf8_all text

-- an element with its name, its namespace and its attributes, as tree construction keeps it
pub record IsOfKind (o : Open) (element : Kind) : Type 0 where
  pub written : List ℕ  -- the name of its tag
  pub attrs : List NodeAttr
  pub contents : Option ℕ
  pub tag : IsTagName written
  pub name : o.name ≡ name_of written
  pub kind : element ≡ ElementNode (space_of o.ns) (local_for o.ns written) attrs contents
  pub point : is_an_html_point o ≡ is_html_point element
  pub plain : is_a_template o ≡ false → contents ≡ None

-- The element that a tag makes in a namespace has this name in its tag, and these attributes.
pub record IsTagOf (ns : ElementNamespace) (name : Name) (tag : Tag) (written : List ℕ) (attrs : List NodeAttr) : Type 0 where
  pub tag_name : IsTagName written
  pub known : name ≡ name_of written
  pub local : local_name_in ns name (string_bytes tag.name) ≡ encode_utf8_all (local_for ns written)
  pub spelt : name ≡ Name.Other → string_bytes tag.name ≡ encode_utf8_all written
  pub same_attrs : map (attr_in ns) tag.attrs.items ≡ map attr_for attrs
  pub point : (is_in_mathml ns && is_html_annotation ns name tag.attrs.items) ≡
      (is_named (codes "math annotation-xml" ∷ []) (ElementNode (space_of ns) (local_for ns written) attrs None)
      && has_value (codes "encoding") html_encodings attrs)

-- an open element stands for the node with its id
abbrev pub StandsFor : List Node → Open → Type 0
StandsFor nodes o = IsOfKind o (node_at nodes o.id).kind

abbrev pub AllStand : List Node → List Open → Type 0
AllStand nodes [] = Unit {0}
AllStand nodes (o ∷ os) = StandsFor nodes o × AllStand nodes os

-- the stack of open elements, from the outermost element on, stands for that of the definition
pub record IsStackOf (t : GrowingTree) (elements : List Open) : Type 0 where
  pub ids : t.stack ≡ map (λ o. o.id) (reverse elements)
  pub nodes : AllStand t.nodes (reverse elements)

-- the elements that the rules add to the list of active formatting elements
abbrev pub formatting_names : List (List ℕ)
formatting_names =
    codes "a" ∷ codes "b" ∷ codes "big" ∷ codes "code" ∷ codes "em" ∷ codes "font" ∷ codes "i" ∷ codes "nobr" ∷ codes "s" ∷ codes "small" ∷
    codes "strike" ∷ codes "strong" ∷ codes "tt" ∷ codes "u" ∷ []

-- an element of the list of active formatting elements is one of those
abbrev pub EntryStands : List Node → Entry → Type 0
EntryStands nodes Entry.Marker = Unit {0}
EntryStands nodes (Entry.Element o) = StandsFor nodes o × (is_one formatting_names o ≡ true)

abbrev pub entry_of : Entry → StandardEntry
entry_of Entry.Marker = Marker
entry_of (Entry.Element o) = Formatting o.id

-- the list of active formatting elements, from the oldest entry on, stands for that of the definition
pub record IsListOf (nodes : List Node) (listed : List StandardEntry) (entries : List Entry) : Type 0 where
  pub list : listed ≡ map entry_of (reverse entries)
  pub elements : All (EntryStands nodes) entries

abbrev pub form_of : FormPointer → StandardForm
form_of FormPointer.None = NoForm
form_of FormPointer.Context = FormOfContext
form_of (FormPointer.Element n) = FormAt n

-- the form element pointer points to an element `form`, if it does to a node of the tree
abbrev pub IsFormNamed : List Node → StandardForm → Type 0
IsFormNamed nodes NoForm = Unit {0}
IsFormNamed nodes FormOfContext = Unit {0}
IsFormNamed nodes (FormAt n) = is_named (codes "form" ∷ []) (node_at nodes n).kind ≡ true

-- the head element pointer points to an element `head`, if it is set
abbrev pub IsHeadNamed : List Node → Option ℕ → Type 0
IsHeadNamed nodes None = Unit {0}
IsHeadNamed nodes (Some n) = (is_named (codes "head" ∷ []) (node_at nodes n).kind ≡ true) × (contents_in (node_at nodes n).kind ≡ None)

-- the elements to which the attributes of later tags are added
abbrev pub late_names : List (List ℕ)
late_names = codes "html" ∷ codes "body" ∷ []

-- an element with the attributes of later tags, whose names are known
pub record TakesAttrs (element : Kind) (late : Late) : Type 0 where
  pub named : is_named late_names element ≡ true
  pub known : AreNamesOf late.names (map attr_for (attrs_in element))

abbrev pub TakeAttrs : List Node → List Late → Type 0
TakeAttrs nodes late = (n : ℕ) → IfSome (late_at late n) (TakesAttrs (node_at nodes n).kind)

-- the context element of a fragment
abbrev pub IsContext : Option Open → Option Kind → Type 0
IsContext None None = Unit {0}
IsContext (Some o) (Some kind) = IsOfKind o kind
IsContext _ _ = ⊥

-- an element on the stack, or the Document, which the definition takes where none is open
abbrev pub IsCurrent : Option Open → Kind → Type 0
IsCurrent None kind = kind ≡ DocumentNode
IsCurrent (Some o) kind = IsOfKind o kind

-- the scope of that name
abbrev pub scope_kind : Scope → ScopeKind
scope_kind Scope.Default = DefaultScope
scope_kind Scope.ListItem = ListItemScope
scope_kind Scope.Button = ButtonScope
scope_kind Scope.Table = TableScope

-- the texts of a name, if there is one
abbrev pub text_list : Option Name → List (List ℕ)
text_list None = []
text_list (Some name) = text_of name ∷ []

-- ---- places

-- a place for a node as an insertion point
abbrev pub point_at : Place → InsertionPoint
point_at (EndOf p) = TheEndOf p
point_at (Before p m) = TheBefore m

-- ---- the whole tree under construction

-- The state is that of the definition, number for number. Where foster parenting is enabled is told apart (`Placing`), and `found` is
-- used within one rule only.
pub record Builds (s : TreeState) (t : GrowingTree) : Type 0 where
  pub nodes : AreNodes t.nodes (completed s.late s.forest)
  pub stack : IsStackOf t s.stack
  pub numbered : AreNumbered s.numbers t.nodes s.stack
  pub listed : IsListOf t.nodes t.listed s.formatting
  pub head : t.head ≡ s.head
  pub head_named : IsHeadNamed t.nodes t.head
  pub form : t.form ≡ form_of s.form
  pub form_named : IsFormNamed t.nodes t.form
  pub context : IsContext s.context t.context
  pub late : TakeAttrs t.nodes s.late
  pub lone : (n : ℕ) → is_document (node_at t.nodes n).kind ≡ true → n ≡ 0

-- a fragment is parsed
abbrev pub is_fragment : GrowingTree → Bool
is_fragment t = option_map_or (λ kind. true) t.context false

-- What turns the old state into the new one is this step of the definition.
abbrev pub Does : (GrowingTree → GrowingTree) → TreeState → TreeState → Type 0
Does step old new = (t : GrowingTree) → Builds old t → Builds new (step t)

-- the place for a node: where elements go into the head, which is closed already, the end of the head element
abbrev pub place_for : Placing → GrowingTree → Place
place_for placing t = if placing.in_head then option_map_or EndOf t.head (place t) else place t

-- "insert a foreign element" there
abbrev pub inserted_in : Placing → Space → List ℕ → List NodeAttr → GrowingTree → GrowingTree
inserted_in placing space name attrs t = inserted_at (place_for placing t) space name attrs t

-- an element is removed from its parent
abbrev pub cut : Option ℕ → GrowingTree → GrowingTree
cut None t = t
cut (Some n) t = record t { nodes = removed n t.nodes }

-- the parts of a doctype: its name, public identifier and system identifier
abbrev pub AreParts : Doctype → List (Bor (List ℕ)) → Type 0
AreParts d parts = map (λ part. part.now) parts ≡ part_for d.name ∷ part_for d.public_id ∷ part_for d.system_id ∷ []

-- The same where foster parenting is enabled alike, unless more elements are open afterwards than may be nested.
abbrev pub DoesIn : Placing → (GrowingTree → GrowingTree) → TreeState → TreeState → Type 0
DoesIn placing step old new =
    length new.stack ≤ placing.max_depth → (t : GrowingTree) → t.fostering ≡ placing.foster → Builds old t → Builds new (step t)

-- The same however many elements are open.
abbrev pub DoesAtAnyDepth : Placing → (GrowingTree → GrowingTree) → TreeState → TreeState → Type 0
DoesAtAnyDepth placing step old new = (t : GrowingTree) → t.fostering ≡ placing.foster → Builds old t → Builds new (step t)

-- The same of characters, which are in no Document.
abbrev pub DoesInside : Placing → (GrowingTree → GrowingTree) → TreeState → TreeState → Type 0
DoesInside placing step old new =
    (t : GrowingTree) → t.fostering ≡ placing.foster → place_is_document t (place t) ≡ false → Builds old t → Builds new (step t)

-- The value is what the definition has for the state.
abbrev pub Tells : {X : Type 0} → (GrowingTree → X) → TreeState → X → Type 0
Tells value state x = (t : GrowingTree) → Builds state t → x ≡ value t

-- "pop the current node off the stack of open elements"
abbrev pub popped : GrowingTree → GrowingTree
popped t = with_stack t (drop 1 t.stack)

-- "set the head element pointer to the newly created head element", which is the current node
abbrev pub with_head : GrowingTree → GrowingTree
with_head t = record t { head = Some (current t) }

abbrev pub with_form : GrowingTree → GrowingTree
with_form t = record t { form = FormAt (current t) }

abbrev pub with_form_of_context : GrowingTree → GrowingTree
with_form_of_context t = record t { form = FormOfContext }

-- "insert a marker at the end of the list of active formatting elements"
abbrev pub with_marker : GrowingTree → GrowingTree
with_marker t = record t { listed = Marker ∷ t.listed }

-- "clear the list of active formatting elements up to the last marker"
abbrev pub without_marker : GrowingTree → GrowingTree
without_marker t = record t { listed = cleared t.listed }

-- "if the current node is one of these, then pop it"
abbrev pub popped_if : List (List ℕ) → GrowingTree → GrowingTree
popped_if names t = elim (is_one_of t names (current t)) [ true ↦ popped t | false ↦ t ]

-- "while the current node is not a MathML text integration point, an HTML integration point, or an element in the HTML namespace, pop
-- elements"
abbrev pub without_foreign : GrowingTree → GrowingTree
without_foreign t = with_stack t (beyond (is_foreign t) t.stack)

-- "If the stack of open elements has such an element in that scope", it is closed: elements are popped until it has been popped.
abbrev pub closed_in : ScopeKind → List (List ℕ) → GrowingTree → GrowingTree
closed_in kind names t = elim (has_in_scope kind names t) [ true ↦ popped_until names t | false ↦ t ]
