-- The state of a copy in progress: what is read, and what is still to be copied. These definitions
-- appear in no contract of a public function.
use Rattle.std.specs.Prelude.{ℕ, ◌≡◌, ◌≢◌, ◌<◌, ◌≤◌, ◌+◌, ◌⊎◌, false, List, [], ◌∷◌, Option, Some, None, Result, IfErr, IfOk, OnOk, length, vec_len}
use Rattle.std.specs.Global.{Vec}
use Rattle.std.specs.List.{AllByRecursion}
use Rattle.std.specs.Borrow.{Bor}
use Rattle.dom_nodes.specs.declared.fault.EditFault.{EditFault}
use Rattle.dom_nodes.specs.declared.fault.EditFault.TheVariants.{TooManyNodes, Memory}
use Rattle.dom_nodes.specs.declared.node_data.NodeData.{NodeData}
use Rattle.dom_nodes.specs.declared.node_data.TreeNode.{TreeNode}
use Rattle.dom_nodes.specs.Kinds.{contents_named}
use Rattle.dom_links.specs.Copies.{Extends, MayCopy, copied_data, data_at, with_copies, with_node_below}
use Rattle.dom_links.specs.Forest.{Forest, IsArenaOf, forest_of}
use Rattle.dom_links.specs.Sound.{IsForest, IsSoundArena}
use Rattle.dom_links.specs.Trees.{trees}
use Rattle.dom_links.specs.Walk.{row_on}
use Rattle.dom_links.specs.declared.ops.copies.Row.{Row}

-- The two forests at the beginning: the one that is copied from, and the one that is copied into.
pub record Copying : Type 0 where
  pub source : Forest
  pub base : Forest

-- The nodes that are read: those of another arena, or those of the arena that the copies are added
-- to.
abbrev pub read_nodes : Option (Bor (List TreeNode)) → List TreeNode → List TreeNode
read_nodes None nodes = nodes
read_nodes (Some other) nodes = other.now

-- The nodes that are read are those of the source.
abbrev pub IsRead : Copying → Option (Bor (List TreeNode)) → Type 0
IsRead copying None = copying.source ≡ copying.base
IsRead copying (Some other) = IsArenaOf copying.source other.now

-- The invariant of the copy: copies have been added, and all nodes of the beginning are as they
-- were.
pub record IsUnderWay (copying : Copying) (other : Option (Bor (List TreeNode))) (nodes : List TreeNode) : Type 0 where
  pub good : IsForest copying.source
  pub linked : IsArenaOf (forest_of nodes) nodes
  pub numbered : length nodes ≤ 4294967295
  pub kept : Extends copying.base (forest_of nodes)
  pub read : IsRead copying other

-- The condition at the beginning: no copy was made yet, and the nodes may be copied.
abbrev pub CanBegin : Copying → Option (Bor (List TreeNode)) → List TreeNode → List ℕ → Type 0
CanBegin copying other nodes ns =
    IsSoundArena nodes × IsUnderWay copying other nodes × (copying.base ≡ forest_of nodes) × MayCopy copying.source ns

-- A row begins at a node of the source, and its copies become children of a copy.
pub record IsRow (copying : Copying) (count : ℕ) (row : Row) : Type 0 where
  pub known : row.first < length copying.source.content
  pub new : length copying.base.content ≤ row.parent
  pub made : row.parent < count

-- A copy may be put there: below another copy, or detached.
abbrev pub IsPlaceFor : Copying → ℕ → Option ℕ → Type 0
IsPlaceFor copying count None = Unit {0}
IsPlaceFor copying count (Some p) = (length copying.base.content ≤ p) × (p < count)

-- All entries of the stack are such rows.
abbrev pub AreRows : Copying → ℕ → List Row → Type 0
AreRows copying count rows = AllByRecursion (IsRow copying count) rows

-- The forest with copies of the nodes of a row.
abbrev pub with_row : Forest → Row → Forest → Forest
with_row source row forest = with_copies source (Some row.parent) (trees source (row_on source false (Some row.first))) forest

-- The forest with copies of the nodes of several rows, those of the last row first.
abbrev pub with_rows : Forest → List Row → Forest → Forest
with_rows source [] forest = forest
with_rows source (row ∷ rows) forest = with_row source row (with_rows source rows forest)

-- The row that begins at this node, if there is one.
abbrev pub row_from : Option ℕ → ℕ → List Row
row_from None parent = []
row_from (Some first) parent = record { first = first; parent = parent } ∷ []

-- When copying a node's data to this id may fail: there are no ids for the copy and its template
-- contents, or memory is refused.
abbrev pub LacksRoom : ℕ → NodeData → EditFault → Type 0
LacksRoom number content TooManyNodes = (4294967295 ≤ number) ⊎ ((4294967295 ≤ number + 1) × (contents_named content ≢ None))
LacksRoom number content Memory = Unit {0}
LacksRoom number content _ = ⊥

-- When a copy may fail: the forest would have more nodes than there are ids, or memory is refused.
abbrev pub IsTooLarge : Forest → EditFault → Type 0
IsTooLarge forest TooManyNodes = 4294967295 < length forest.content
IsTooLarge forest Memory = Unit {0}
IsTooLarge forest _ = ⊥

-- A copy of the node may be put there.
pub record CanGoBelow (copying : Copying) (count : ℕ) (n : ℕ) (parent : Option ℕ) : Type 0 where
  pub known : n < length copying.source.content
  pub place : IsPlaceFor copying count parent

-- The result of copying one node without its subtree.
pub record CopiesAlone (copying : Copying) (other : Option (Bor (List TreeNode))) (result : Result ℕ EditFault) (old new : Vec TreeNode) (n : ℕ) (parent : Option ℕ) : Type 0 where
  pub under_way : IsUnderWay copying other new.items
  pub made : OnOk result (forest_of new.items ≡ with_node_below parent (copied_data (vec_len old) (data_at copying.source n)) (forest_of old.items))
  pub number : IfOk result (λ made. made ≡ vec_len old)
  pub grown : OnOk result (vec_len new ≡ vec_len old + 1)
  pub cause : IfErr result (LacksRoom (vec_len old) (data_at copying.source n))

-- The result of copying nodes of which some are still on the stack: with the copies of the rows
-- that were pushed, the forest will be `after`.
pub record CopiesAndNotes {A : Type 0} (copying : Copying) (other : Option (Bor (List TreeNode))) (result : Result A EditFault) (old new : Vec TreeNode) (rows noted : List Row) (after : Forest → Forest) : Type 0 where
  pub under_way : IsUnderWay copying other new.items
  pub are_rows : OnOk result (AreRows copying (vec_len new) noted)
  pub made : OnOk result (with_rows copying.source noted (forest_of new.items) ≡ with_rows copying.source rows (after (forest_of old.items)))
  pub grown : OnOk result (vec_len old < vec_len new)
  pub cause : IfErr result (IsTooLarge (after (forest_of old.items)))

-- The result of copying everything: the forest is `after`; or it would be too large, or memory is
-- refused.
pub record CopiesAll {A : Type 0} (copying : Copying) (other : Option (Bor (List TreeNode))) (result : Result A EditFault) (old new : Vec TreeNode) (after : Forest → Forest) : Type 0 where
  pub under_way : IsUnderWay copying other new.items
  pub made : OnOk result (forest_of new.items ≡ after (forest_of old.items))
  pub cause : IfErr result (IsTooLarge (after (forest_of old.items)))

-- Each of the ids is that of a node of the forest.
abbrev pub AreNodesOf : Forest → List ℕ → Type 0
AreNodesOf forest ns = AllByRecursion (λ n. n < length forest.content) ns
