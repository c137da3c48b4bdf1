-- A document that is read up to some token: the open elements, and the trees that are complete.
use Rattle.std.specs.Prelude.{◌≡◌, ◌+◌, ℕ, List, [], ◌∷◌, ◌++◌, length, Bool, true, false, Some, None, if◌then◌else◌}
use Rattle.dom_nodes.specs.Words.{is_among}
use Rattle.dom_markup.specs.Names.{is_template, void_names}
use Rattle.dom_markup.specs.ValueTrees.{Attribute, ValueTrees}
use Rattle.dom_markup.specs.ValueTrees.ValueTrees.{no_trees, text_node, comment_node, doctype_node, element_node}
use Rattle.dom_markup.specs.Markup.{Item, AreInPlace, items_of}
use Rattle.dom_markup.specs.Markup.Item.{start_tag}
use Rattle.dom_links.specs.Forest.{Forest}
use Rattle.dom_links.specs.Growth.{with_child, with_template}
use Rattle.dom_markup.specs.Numbered.{document_of, read_element, size}

-- an open element: the complete trees before it among its siblings, its name and its attributes
pub record Frame : Type 0 where
  pub before : ValueTrees
  pub name : List ℕ
  pub attributes : List Attribute

-- a list of trees followed by another list of trees
infixl 20 ◌then◌
abbrev pub ◌then◌ : ValueTrees → ValueTrees → ValueTrees
no_trees then more = more
(text_node contents after) then more = text_node contents (after then more)
(comment_node contents after) then more = comment_node contents (after then more)
(doctype_node name public system after) then more = doctype_node name public system (after then more)
(element_node name attributes children after) then more = element_node name attributes children (after then more)

-- The tokens read up to the innermost open element. The list of frames starts with the innermost.
abbrev pub opened_items : List Frame → List Item
opened_items [] = []
opened_items (f ∷ fs) = opened_items fs ++ (items_of f.before ++ start_tag f.name f.attributes ∷ [])

-- the trees that result if all open elements end here, where `done` are the last children of the innermost
abbrev pub closed : List Frame → ValueTrees → ValueTrees
closed [] done = done
closed (f ∷ fs) done = closed fs (f.before then element_node f.name f.attributes done no_trees)

abbrev pub is_top : List Frame → Bool
is_top [] = true
is_top (f ∷ fs) = false

-- no open element is void, and doctypes occur only at the top level
abbrev pub FramesInPlace : List Frame → Type 0
FramesInPlace [] = Unit {0}
FramesInPlace (f ∷ fs) = AreInPlace (is_top fs) f.before × (is_among f.name void_names ≡ false) × FramesInPlace fs

-- How many nodes start up to and including the innermost open element, counting a template's contents too. This is also the id of
-- the node that gets the children of that element: the element, or its contents if it is a template.
abbrev pub opened_size : List Frame → ℕ
opened_size [] = 0
opened_size (f ∷ fs) = opened_size fs + (size f.before + (if is_template f.name then 2 else 1))

-- an open element: the id of the node that gets its children, and its name
pub record Opened : Type 0 where
  pub number : ℕ
  pub name : List ℕ

-- the stack of open elements, the innermost last
abbrev pub opened : List Frame → List Opened
opened [] = []
opened (f ∷ fs) = opened fs ++ record { number = opened_size (f ∷ fs); name = f.name } ∷ []

-- the forest with a new element as the last child of `p`; a `template` gets a contents fragment as well
abbrev pub with_element : ℕ → List ℕ → List Attribute → Forest → Forest
with_element p name attributes forest =
    if is_template name then with_template p (read_element name attributes (Some (length forest.content + 1))) forest
    else with_child p (read_element name attributes None) forest

-- the id of the node that gets the new element's children: its contents fragment, if it is a template
abbrev pub children_place : List ℕ → Forest → ℕ
children_place name forest = if is_template name then length forest.content + 1 else length forest.content

-- what has been read after these tokens: the forest so far, and the stack of open elements
pub record HasRead (items : List Item) (forest : Forest) (stack : List Opened) : Type 0 where
  pub frames : List Frame
  pub done : ValueTrees
  pub items_are : items ≡ opened_items frames ++ items_of done
  pub forest_is : forest ≡ document_of (closed frames done)
  pub stack_is : stack ≡ opened frames
  pub open_in_place : FramesInPlace frames
  pub in_place : AreInPlace (is_top frames) done
