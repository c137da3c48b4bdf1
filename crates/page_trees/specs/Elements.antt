-- What tree construction knows about the nodes that it refers to by id, and its edits, which fail only because of limits.
use Rattle.std.specs.Prelude.{ℕ, ◌≡◌, ◌+◌, ◌⊎◌, true, false, List, Option, Some, None, All, IfSome, length, slice_get}
use Rattle.std.specs.List.{AllPairs}
use Rattle.std.specs.Option.{option_map_or}
use Rattle.dom_nodes.specs.Elements.{Element as ElementParts}
use Rattle.dom_nodes.specs.Kinds.{contents_named, is_element, is_top}
use Rattle.dom_nodes.specs.declared.node_data.NodeData.{NodeData}
use Rattle.dom_nodes.specs.declared.fault.EditFault.{EditFault}
use Rattle.dom_nodes.specs.declared.fault.EditFault.TheVariants.{TooManyNodes, Memory}
use Rattle.dom_links.specs.Forest.{Forest}
use Rattle.dom_links.specs.ListMoves.{element_at}
use Rattle.dom_links.specs.Sound.{AtOrBelow, IsHostAncestor, children_allowed_at}
use Rattle.dom_links.specs.Growth.{with_lone_template, with_node}
use Rattle.dom_trees.specs.Views.{node_element}
use Rattle.page_trees.specs.Likeness.{KnowsLikes, Listed}
use Rattle.page_trees.specs.declared.fault.PageFault.{PageFault}
use Rattle.page_trees.specs.declared.fault.PageFault.TheVariants.{Memory as NoMemory, TooManyNodes as NoNumber}
use Rattle.page_trees.specs.declared.formatting.Entry.{Entry}
use Rattle.page_trees.specs.declared.formatting.Entry.TheVariants.{Element}
use Rattle.page_trees.specs.declared.growing.placing.Place.{Place}
use Rattle.page_trees.specs.declared.growing.placing.Place.TheVariants.{EndOf, Table}
use Rattle.page_trees.specs.declared.pointers.FormPointer.{FormPointer}
use Rattle.page_trees.specs.declared.pointers.FormPointer.TheVariants.{Element as TheForm}
use Rattle.page_trees.specs.declared.stack.Open.{Open}

-- ---- node ids

-- the node with this id is an element
abbrev pub IsElement : Forest → ℕ → Type 0
IsElement forest n = element_at forest n ≡ true

-- the root is a document or a fragment
abbrev pub IsRooted : Forest → Type 0
IsRooted forest = option_map_or is_top (slice_get forest.content 0) false ≡ true

-- every entry of the stack of open elements is an element
abbrev pub AreOpen : Forest → List Open → Type 0
AreOpen forest stack = All (λ o. IsElement forest o.id) stack

-- no open element is the same as, or a descendant of, one that was opened later
abbrev pub IsInOrder : Forest → List Open → Type 0
IsInOrder forest stack = AllPairs (λ earlier later. AtOrBelow forest later.id earlier.id → ⊥) stack

-- an entry of the list of active formatting elements is an element or a marker
abbrev pub IsEntry : Forest → Entry → Type 0
IsEntry forest (Element element) = IsElement forest element.id
IsEntry forest _ = Unit {0}

-- the form element pointer is an element of the tree, or no node of the tree
abbrev pub IsForm : Forest → FormPointer → Type 0
IsForm forest (TheForm n) = IsElement forest n
IsForm forest _ = Unit {0}

-- Every node id that tree construction keeps is the id of an element: in the stack of open elements, in the list of active
-- formatting elements, in the head and form element pointers, and of the root that represents a context element. The stack is in
-- order, and what the list knows of like elements is right.
pub record AreElements (forest : Forest) (elements : List Open) (listed : Listed) (the_head : Option ℕ) (the_form : FormPointer) (the_context : Option Open) : Type 0 where
  pub root : IsRooted forest
  pub stack : AreOpen forest elements
  pub order : IsInOrder forest elements
  pub formatting : All (IsEntry forest) listed.entries
  pub likes : KnowsLikes forest listed
  pub head : IfSome the_head (IsElement forest)
  pub form : IsForm forest the_form
  pub context : IfSome the_context (λ o. IsElement forest o.id)

-- a place for a node: the end of a node that may have children, or beside a table, with the element before it on the stack
abbrev pub IsPlace : Forest → Place → Type 0
IsPlace forest (EndOf n) = children_allowed_at forest n ≡ true
IsPlace forest (Table table other) = IsElement forest table × IsElement forest other

-- every element that contains or is node `n` also contains or is one of these open elements
abbrev pub LiesIn : Forest → List Open → ℕ → Type 0
LiesIn forest elements n =
    (x : ℕ) → IsElement forest x → All (λ o. AtOrBelow forest x o.id → ⊥) elements → AtOrBelow forest x n → ⊥

-- `LiesIn` for the nodes of a place
abbrev pub LiesAt : Forest → List Open → Place → Type 0
LiesAt forest elements (EndOf n) = LiesIn forest elements n
LiesAt forest elements (Table table other) = LiesIn forest elements table × LiesIn forest elements other

-- Elements stay elements and keep their names and attributes, the root stays a document or a fragment, and no element becomes an ancestor
-- of another.
pub record Grows (old new : Forest) : Type 0 where
  pub elements : (n : ℕ) → IsElement old n → IsElement new n
  pub same : (n : ℕ) (e : ElementParts) → node_element old n ≡ Some e → node_element new n ≡ Some e
  pub root : IsRooted old → IsRooted new
  pub ways : (m n : ℕ) → IsElement old m → IsElement old n → IsHostAncestor new m n → IsHostAncestor old m n

-- an element was made, and no other element is the same or a descendant of it
pub record IsFresh (old new : Forest) (id : ℕ) : Type 0 where
  pub element : IsElement new id
  pub below : (n : ℕ) → IsElement old n → AtOrBelow new id n → ⊥

-- An element was made and `x` was moved into it. Its only descendants are `x` and those of `x`, and it has no element ancestors.
pub record IsAround (old new : Forest) (id x : ℕ) : Type 0 where
  pub element : IsElement new id
  pub below : (n : ℕ) → IsElement old n → AtOrBelow new id n → AtOrBelow old x n
  pub above : (n : ℕ) → IsElement old n → AtOrBelow new n id → ⊥

-- An element was made and moved into `x`. Its ancestors are `x` and those of `x`, and its descendants were descendants of `x`.
pub record IsInside (old new : Forest) (id x : ℕ) : Type 0 where
  pub element : IsElement new id
  pub below : (n : ℕ) → IsElement old n → AtOrBelow new id n → IsHostAncestor old x n
  pub above : (n : ℕ) → IsElement old n → AtOrBelow new n id → AtOrBelow old n x

-- a node without template contents was made
abbrev pub IsPlainNode : NodeData → Forest → Forest → Type 0
IsPlainNode content old new = (contents_named content ≡ None) × (new ≡ with_node content old)

-- a template was made, and its contents fragment with the next id
abbrev pub IsTemplateNode : NodeData → Forest → Forest → Type 0
IsTemplateNode content old new = (contents_named content ≡ Some (length old.content + 1)) × (new ≡ with_lone_template content old)

-- a detached node was made with the next id
pub record IsNew (old new : Forest) (id : ℕ) : Type 0 where
  pub content : NodeData
  pub number : id ≡ length old.content
  pub movable : is_top content ≡ false
  pub made : IsPlainNode content old new ⊎ IsTemplateNode content old new

-- `IsNew`, and the node is an element
pub record IsMade (old new : Forest) (id : ℕ) : Type 0 where
  pub node : IsNew old new id
  pub element : is_element node.content ≡ true

-- a detached element without template contents was made with the next id
pub record IsCopy (old new : Forest) (id : ℕ) : Type 0 where
  pub content : NodeData
  pub number : id ≡ length old.content
  pub element : is_element content ≡ true
  pub made : IsPlainNode content old new

-- ---- faults

-- memory or node ids ran out
abbrev pub IsLimit : EditFault → Type 0
IsLimit TooManyNodes = Unit {0}
IsLimit Memory = Unit {0}
IsLimit _ = ⊥

-- the limit that a `PageFault` reports
abbrev pub limit_of : PageFault → EditFault
limit_of NoMemory = Memory
limit_of NoNumber = TooManyNodes
