-- The appropriate place for inserting a node (13.2.6.1). The lists of open elements go from the current node outwards.
use Rattle.std.specs.Prelude.{ℕ, Bool, false, ◌==◌, ◌&&◌, List, [], ◌∷◌, Some, None, codes, length, nat_le, reverse, if◌then◌else◌}
use Rattle.std.specs.Option.{unwrap_or}
use Rattle.dom_links.specs.Forest.{Forest, parent}
use Rattle.dom_links.specs.Sound.{contents_at}
use Rattle.dom_links.specs.declared.gap.InsertionPoint.{InsertionPoint}
use Rattle.dom_links.specs.declared.gap.InsertionPoint.TheVariants.{Before, EndOf as TheEndOf}
use Rattle.standard_trees.specs.NameLists.{fostering_names}
use Rattle.page_trees.specs.Sets.{is_one, is_one_in}
use Rattle.page_trees.specs.declared.growing.placing.Place.{Place}
use Rattle.page_trees.specs.declared.growing.placing.Place.TheVariants.{EndOf, Table}
use Rattle.page_trees.specs.declared.growing.placing.Placing.{Placing}
use Rattle.page_trees.specs.declared.name.Name.{Name}
use Rattle.page_trees.specs.declared.stack.ElementNamespace.{ElementNamespace}
use Rattle.page_trees.specs.declared.stack.Open.{Open}

abbrev pub is_a_template : Open → Bool
is_a_template o = is_one (codes "template" ∷ []) o

abbrev pub is_a_table : Open → Bool
is_a_table o = is_one (codes "table" ∷ []) o

abbrev pub is_template_named : ElementNamespace → Name → Bool
is_template_named ns name = is_one_in (codes "template" ∷ []) ns name

-- whether foster parenting applies to what is inserted into the element
abbrev pub fosters : Open → Bool
fosters o = is_one fostering_names o

-- the template contents of an element that has some, and otherwise the element itself
abbrev pub inner : Forest → ℕ → ℕ
inner forest n = unwrap_or (contents_at forest n) n

-- The foster parent: the last template, if no table is open in it; otherwise the parent of the last table, right before the
-- table; the outermost element where no table is open. The element before the table on the stack takes the place of a parent
-- that is missing.
abbrev pub foster_place_of : Forest → List Open → Place
foster_place_of forest [] = EndOf 0
foster_place_of forest (o ∷ []) = EndOf (if is_a_template o then inner forest o.id else o.id)
foster_place_of forest (o ∷ outer ∷ others) =
    if is_a_template o then EndOf (inner forest o.id)
    else if is_a_table o then Table o.id outer.id
    else foster_place_of forest (outer ∷ others)

-- the place of a node with the current node as the target, or at the root where no element is open
abbrev pub place_of : Forest → Bool → List Open → Place
place_of forest foster [] = EndOf 0
place_of forest foster (o ∷ others) = if foster && fosters o then foster_place_of forest (o ∷ others) else EndOf (inner forest o.id)

-- the insertion point at a place
abbrev pub point_of : Forest → Place → InsertionPoint
point_of forest (EndOf n) = TheEndOf n
point_of forest (Table table other) = elim (parent forest table) [ Some _ ↦ Before table | None ↦ TheEndOf (inner forest other) ]

-- ---- a limit on depth

-- the end of the node's parent; of the node itself, if it has none
abbrev pub place_above : Forest → ℕ → Place
place_above forest n = EndOf (unwrap_or (parent forest n) n)

abbrev pub place_outside : Forest → Place → Place
place_outside forest (EndOf n) = place_above forest n
place_outside forest place = place

-- The place of a node in the current node. If as many elements are open as may be nested, it is in the parent instead.
abbrev pub place_within : Forest → Placing → List Open → Place
place_within forest placing elements =
    if nat_le placing.max_depth (length elements) then place_outside forest (place_of forest placing.foster (reverse elements))
    else place_of forest placing.foster (reverse elements)

-- the end of the root's children
abbrev pub is_at_top : InsertionPoint → Bool
is_at_top (TheEndOf n) = n == 0
is_at_top _ = false
