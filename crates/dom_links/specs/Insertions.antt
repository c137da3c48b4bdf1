-- Inserting copies of nodes at a place in a forest.
use Rattle.std.specs.Prelude.{ℕ, ◌≡◌, ◌<◌, true, List, [], ◌∷◌, Option, Some, None, Result, IfErr, OnErr, OnOk, length, if◌then◌else◌}
use Rattle.dom_nodes.specs.declared.fault.EditFault.{EditFault}
use Rattle.dom_nodes.specs.declared.node_data.TreeNode.{TreeNode}
use Rattle.dom_links.specs.Copies.{CopyCause, MayCopy, copied, copy_numbers}
use Rattle.dom_links.specs.Forest.{Forest, children_of, forest_of}
use Rattle.dom_links.specs.ListMoves.{AllowedList, element_at, wrapped}
use Rattle.dom_links.specs.Lists.{first}
use Rattle.dom_links.specs.Moves.{InsertionPoint, end_of, front_of, before_node, after_node, detach, moved_to}
use Rattle.dom_links.specs.Sound.{Edited, IsSoundArena, is_open}
-- Where new nodes are inserted, relative to a node.
pub use Rattle.dom_links.specs.declared.gap.Place.{Place}
pub use Rattle.dom_links.specs.declared.gap.Place.TheVariants.{AtEnd as at_end, AtFront as at_front, Before as before_it, After as after_it, InsteadOfChildren as instead_of_children, InsteadOfNode as instead_of_node, Around as around_it}

-- The insertion point of a place, relative to node x.
abbrev pub gap_at : Place → ℕ → InsertionPoint
gap_at at_end x = end_of x
gap_at instead_of_children x = end_of x
gap_at at_front x = front_of x
gap_at after_it x = after_node x
gap_at _ x = before_node x

-- The forest with node x wrapped in the other node, if that is an element.
abbrev pub wrapped_by : Option ℕ → ℕ → Forest → Forest
wrapped_by None x forest = forest
wrapped_by (Some w) x forest = if element_at forest w then wrapped x w forest else forest

-- The forest with the nodes inserted at the place, in their order. For `Around`, x is wrapped in
-- the first of them; otherwise they are moved to the insertion point, and what they replace is
-- detached.
abbrev pub placed : Place → ℕ → List ℕ → Forest → Forest
placed instead_of_children x new forest = moved_to new (end_of x) (detach (children_of forest x) forest)
placed instead_of_node x new forest = detach (x ∷ []) (moved_to new (before_node x) forest)
placed around_it x new forest = wrapped_by (first new) x (detach new forest)
placed place x new forest = moved_to new (gap_at place x) forest

-- Nodes of an arena were inserted at a place.
abbrev pub Placed : List TreeNode → List TreeNode → Place → ℕ → List ℕ → Type 0
Placed old new place x moved =
    Edited old new (placed place x moved (forest_of old)) (AllowedList (forest_of old) (gap_at place x) moved)

-- The forest with copies of nodes of a source, inserted at a place.
abbrev pub inserted : Forest → List ℕ → Place → ℕ → Forest → Forest
inserted source ns place x forest = placed place x (copy_numbers source ns forest) (copied source ns forest)

-- The node x exists, nodes may be put at the place, and the nodes may be copied.
pub record MayInsert (source : Forest) (ns : List ℕ) (place : Place) (x : ℕ) (forest : Forest) : Type 0 where
  pub known : x < length forest.content
  pub open_here : is_open (gap_at place x) forest ≡ true
  pub copies : MayCopy source ns

-- The result of copying nodes of a source and inserting the copies at a place. On an error the
-- forest is unchanged.
pub record Inserted (result : Result Unit EditFault) (source : Forest) (ns : List ℕ) (place : Place) (x : ℕ) (old new : List TreeNode) : Type 0 where
  pub made : OnOk result (forest_of new ≡ inserted source ns place x (forest_of old))
  pub allowed : OnOk result (MayInsert source ns place x (forest_of old))
  pub err : OnErr result (forest_of new ≡ forest_of old)
  pub cause : IfErr result (CopyCause source ns (forest_of old))
  pub sound : IsSoundArena new
