-- The tree under construction, with what points into it (13.2.4.2 to 13.2.4.4), as contracts see it.
use Rattle.std.specs.Prelude.{List, None, Option, Some, [], ◌++◌, ◌==◌, ◌∷◌, if◌then◌else◌, map, slice_get, string_bytes, ℕ}
use Rattle.std.specs.Option.{option_or}
use Rattle.dom_nodes.specs.declared.name.Attr.{Attr}
use Rattle.dom_nodes.specs.declared.node_data.NodeData.{NodeData}
use Rattle.dom_nodes.specs.declared.node_data.NodeData.TheVariants.{Element}
use Rattle.dom_links.specs.Forest.{Forest}
use Rattle.dom_links.specs.Lists.{map_from}
use Rattle.dom_trees.specs.declared.quirks.QuirksMode.{QuirksMode}
use Rattle.dom_trees.specs.declared.quirks.QuirksMode.TheVariants.{NoQuirks}
use Rattle.page_trees.specs.declared.formatting.Entry.{Entry}
use Rattle.page_trees.specs.declared.growing.late.LateAttrs.{LateAttrs}
use Rattle.page_trees.specs.declared.pointers.FormPointer.{FormPointer}
use Rattle.page_trees.specs.declared.pointers.FormPointer.TheVariants.{None as NoForm}
use Rattle.page_trees.specs.declared.stack.Open.{Open}

-- the attributes that later tags add to the element with an id
pub record Late : Type 0 where
  pub id : ℕ
  pub added : List Attr
  pub names : List (List ℕ)  -- the names of its own attributes and of those

pub record TreeState : Type 0 where
  pub forest : Forest
  pub stack : List Open  -- the stack of open elements, the outermost first
  pub numbers : List (List ℕ × ℕ)  -- the numbers of element names that are not in `Name`
  pub formatting : List Entry  -- the list of active formatting elements, the oldest first
  pub head : Option ℕ  -- the head element pointer
  pub form : FormPointer  -- the form element pointer
  pub context : Option Open  -- of a fragment, the context element, with the id of the element that represents it
  pub late : List Late  -- the attributes that are added to `html` and to `body` at the end
  pub quirks : QuirksMode

abbrev pub late_of : List LateAttrs → List Late
late_of elements =
    map (λ late. record { id = late.id; added = late.added.items; names = map (λ name. string_bytes name) late.names.keys }) elements

-- what later tags add to element n, if there were any
abbrev pub late_at : List Late → ℕ → Option Late
late_at [] n = None
late_at (late ∷ others) n = if late.id == n then Some late else late_at others n

-- a tree in which nothing is open
abbrev pub fresh_state : Forest → TreeState
fresh_state forest = record {
  forest = forest;
  stack = [];
  numbers = [];
  formatting = [];
  head = None;
  form = NoForm;
  context = None;
  late = [];
  quirks = NoQuirks;
}

-- the element at an index of the stack; in a fragment, the context element replaces the outermost one
abbrev pub adjusted_at : TreeState → ℕ → Option Open
adjusted_at s n = if n == 0 then option_or s.context (slice_get s.stack 0) else slice_get s.stack n

-- ---- the tree with the attributes of later tags

abbrev pub added_to : List Late → ℕ → List Attr
added_to [] n = []
added_to (late ∷ others) n = if late.id == n then late.added else added_to others n

abbrev pub with_attrs : List Attr → NodeData → NodeData
with_attrs attrs (Element e) = Element (record e { attrs = e.attrs ++ attrs })
with_attrs attrs node = node

unfoldable pub completed : List Late → Forest → Forest
completed late forest = record forest { content = map_from 0 (λ n node. with_attrs (added_to late n) node) forest.content }
