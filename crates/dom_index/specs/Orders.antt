-- The preorder of a forest as an index stores it, and as a traversal fills it in.
use Rattle.std.specs.Prelude.{ℕ, ◌≡◌, ◌≢◌, ◌<◌, ◌+◌, Bool, false, true, List, [], ◌∷◌, Option, Some, None, length, slice_get, slice_index_or, slice_range}
use Rattle.dom_nodes.specs.declared.node_data.NodeData.{NodeData}
use Rattle.dom_links.specs.Forest.{Forest, parent, siblings}
use Rattle.dom_links.specs.Lists.{before, is_member}
use Rattle.dom_links.specs.Trees.{ancestors, descendants_in_order}
use Rattle.dom_links.specs.Walk.{IsWithin}
use Rattle.dom_index.specs.declared.preorder.Traversal.{Traversal}
use Rattle.dom_index.specs.TypeBytes.{byte_at, is_type_byte}
use Rattle.dom_index.specs.Preorder.{above_it, preorder, preorder_to, run_on, run_past, starts_run}
use Rattle.dom_index.specs.NodeSets.{in_set}

abbrev pub number_at : List ℕ → ℕ → ℕ
number_at numbers i = slice_index_or numbers i 0

-- The first `visited` nodes of the preorder were visited. For each of them the node and its parent are stored at its position,
-- and its position and type byte at its id. The type byte of a node that wasn't visited is 253.
pub record IsTraversed (forest : Forest) (traversal : Traversal) : Type 0 where
  pub order_long : length traversal.order.items ≡ length forest.content
  pub above_long : length traversal.above.items ≡ length forest.content
  pub places_long : length traversal.places.items ≡ length forest.content
  pub type_bytes_long : length traversal.type_bytes.items ≡ length forest.content
  pub order : (i : ℕ) → i < traversal.visited → number_at traversal.order.items i ≡ number_at (preorder forest) i
  pub above : (i : ℕ) → i < traversal.visited → slice_index_or traversal.above.items i None ≡ parent forest (number_at (preorder forest) i)
  pub placed : (i : ℕ) → i < traversal.visited → number_at traversal.places.items (number_at (preorder forest) i) ≡ i
  pub named : (i : ℕ) (node : NodeData) → i < traversal.visited → slice_get forest.content (number_at (preorder forest) i) ≡ Some node → is_type_byte node (byte_at traversal.type_bytes.items (number_at (preorder forest) i)) ≡ true
  pub unvisited : (n : ℕ) → n < length forest.content → byte_at traversal.type_bytes.items n ≢ 253 → (i : ℕ) × (i < traversal.visited) × (number_at (preorder forest) i ≡ n)

-- The first `visited` nodes were visited, and `ahead` more follow in the same tree or among its siblings. The nodes of `path` are
-- at or above the next node, and the subtree ends of all other visited nodes are stored.
pub record AreSubtreeEnds (forest : Forest) (path : List ℕ) (visited ahead : ℕ) (subtree_ends : List ℕ) : Type 0 where
  pub long : length subtree_ends ≡ length forest.content
  pub begun : (n : ℕ) → is_member n path ≡ true → (i : ℕ) × (i < visited) × (number_at (preorder forest) i ≡ n) × (i + 1 + length (descendants_in_order forest n) + length (run_past forest (n ∷ ancestors forest n)) ≡ visited + ahead)
  pub answer : (i : ℕ) → i < visited → is_member (number_at (preorder forest) i) path ≡ false → number_at subtree_ends (number_at (preorder forest) i) ≡ i + length (descendants_in_order forest (number_at (preorder forest) i))

-- the subtree ends that are stored while the path is `n` with its ancestors
abbrev pub AreEndsBehind : Forest → ℕ → ℕ → List ℕ → Type 0
AreEndsBehind forest n visited subtree_ends = AreSubtreeEnds forest (n ∷ ancestors forest n) visited (length (run_past forest (n ∷ ancestors forest n))) subtree_ends

-- `next` is the next node, if there is one, and the subtree ends are those before it is visited
pub record AreEndsBefore (forest : Forest) (next : Option ℕ) (visited : ℕ) (subtree_ends : List ℕ) : Type 0 where
  pub within : IsWithin forest next
  pub ended : AreSubtreeEnds forest (above_it forest next) visited (length (run_on forest next)) subtree_ends

-- `n` is a node, and the next one in preorder to be visited
pub record IsAt (forest : Forest) (n : ℕ) (traversal : Traversal) : Type 0 where
  pub known : n < length forest.content
  pub room : traversal.visited < length forest.content
  pub next : number_at (preorder forest) traversal.visited ≡ n
  pub traversed : IsTraversed forest traversal
  pub ended : AreSubtreeEnds forest (ancestors forest n) traversal.visited (length (run_on forest (Some n))) traversal.subtree_ends.items

-- all nodes were visited of the sibling lists without a parent whose first node has an id below `n`
pub record HasVisitedTo (forest : Forest) (n : ℕ) (traversal : Traversal) : Type 0 where
  pub visited : traversal.visited ≡ length (preorder_to forest n)
  pub traversed : IsTraversed forest traversal
  pub ended : AreSubtreeEnds forest [] traversal.visited 0 traversal.subtree_ends.items

-- `places` has the position of each node of the preorder
abbrev pub ArePlaces : Forest → List ℕ → List ℕ → Type 0
ArePlaces forest order places =
    (length places ≡ length forest.content) × ((i : ℕ) → i < length forest.content → number_at places (number_at order i) ≡ i)

-- Each node occurs once in the preorder, at its position, after its parent and its previous sibling.
pub record IsOrder (forest : Forest) (order places : List ℕ) : Type 0 where
  pub long : length order ≡ length forest.content
  pub places_long : length places ≡ length forest.content
  pub known : (i : ℕ) → i < length forest.content → number_at order i < length forest.content
  pub placed : (i : ℕ) → i < length forest.content → number_at places (number_at order i) ≡ i
  pub inside : (n : ℕ) → n < length forest.content → number_at places n < length forest.content
  pub ordered : (n : ℕ) → n < length forest.content → number_at order (number_at places n) ≡ n
  pub behind_parent : (n m : ℕ) → n < length forest.content → parent forest n ≡ Some m → (m < length forest.content) × (number_at places m < number_at places n)
  pub behind_sibling : (n m : ℕ) → n < length forest.content → before (siblings forest n) n ≡ Some m → (m < length forest.content) × (number_at places m < number_at places n)

-- positions that agree with the preorder make it such an order
abbrev pub PlacesMakeOrder : Forest → Type 0
PlacesMakeOrder forest = (places : List ℕ) → ArePlaces forest (preorder forest) places → IsOrder forest (preorder forest) places

-- a node that was visited with an earlier sibling list is not the first of one itself
abbrev pub VisitedStartNoRun : Forest → Type 0
VisitedStartNoRun forest = (n : ℕ) → n < length forest.content → is_member n (preorder_to forest n) ≡ true → starts_run forest n ≡ false

-- the descendants of each node directly follow it, up to its subtree end
pub record AreSpans (forest : Forest) (order places subtree_ends : List ℕ) : Type 0 where
  pub long : length subtree_ends ≡ length forest.content
  pub last : (n : ℕ) → n < length forest.content → number_at subtree_ends n ≡ number_at places n + length (descendants_in_order forest n)
  pub fits : (n : ℕ) → n < length forest.content → number_at subtree_ends n < length forest.content
  pub below : (n : ℕ) → n < length forest.content → slice_range order (number_at places n + 1) (number_at subtree_ends n + 1) ≡ descendants_in_order forest n

-- Of the nodes of the set at the first `count` positions, all subtrees end before `end`, and the last of them ends just before
-- it.
pub record IsEnd (forest : Forest) (places subtree_ends : List ℕ) (table : List Bool) (count end : ℕ) : Type 0 where
  pub reached : 0 < end → (v : ℕ) × (v < length forest.content) × (in_set table v ≡ true) × (number_at places v < count) × (number_at subtree_ends v + 1 ≡ end)
  pub all : (v : ℕ) → v < length forest.content → in_set table v ≡ true → number_at places v < count → number_at subtree_ends v < end
