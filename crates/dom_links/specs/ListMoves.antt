-- Moves of several siblings, and edits that consist of two moves.
use Rattle.std.specs.Prelude.{ℕ, ◌≡◌, ◌<◌, ◌⊎◌, Bool, true, false, List, [], ◌∷◌, Option, Some, None, length, slice_get, option_and_then, if◌then◌else◌}
use Rattle.std.specs.Option.{option_map_or}
use Rattle.dom_nodes.specs.declared.node_data.TreeNode.{TreeNode}
use Rattle.dom_nodes.specs.Kinds.{is_element}
use Rattle.dom_links.specs.declared.gap.MovedNodes.{MovedNodes}
use Rattle.dom_links.specs.declared.gap.MovedNodes.TheVariants.{Node, WithLater, WholeList}
use Rattle.dom_links.specs.Lists.{IsDistinct, is_member}
use Rattle.dom_links.specs.Forest.{Forest, IsArenaOf, forest_of, children_of, parent, run_of, siblings}
use Rattle.dom_links.specs.Moves.{InsertionPoint, end_of, before_node, detach, moved_to}
use Rattle.dom_links.specs.Sound.{Allowed, AtOrBelow, Edited, MayPlace, children_allowed_at, is_open, stays, target}
use Rattle.dom_links.specs.Walk.{later}

-- A node and its later siblings.
abbrev pub with_later : Forest → ℕ → List ℕ
with_later forest x = x ∷ later forest false x

-- The nodes that are moved, in order.
abbrev pub moved_nodes : Forest → MovedNodes → List ℕ
moved_nodes forest (Node n) = n ∷ []
moved_nodes forest (WithLater n) = with_later forest n
moved_nodes forest (WholeList n) = siblings forest n

-- The node that describes which nodes are moved.
abbrev pub moving_id : MovedNodes → ℕ
moving_id (Node n) = n
moving_id (WithLater n) = n
moving_id (WholeList n) = n

-- P is true of each node in the list.
abbrev pub EachOf : List ℕ → (ℕ → Type 0) → Type 0
EachOf ns P = (n : ℕ) → is_member n ns ≡ true → P n

-- P is true of some node in the list.
abbrev pub SomeOf : List ℕ → (ℕ → Type 0) → Type 0
SomeOf ns P = (n : ℕ) × (is_member n ns ≡ true) × P n

-- Why x and its later siblings may not be moved to t: x is never moved, or t is one of them or
-- inside one of them.
abbrev pub BlockedRun : Forest → ℕ → ℕ → Type 0
BlockedRun forest t x = (stays forest x ≡ true) ⊎ SomeOf (with_later forest x) (λ n. AtOrBelow forest n t)

-- Why the nodes may not be moved to t, for any kind of move.
abbrev pub BlockedMove : Forest → ℕ → MovedNodes → Type 0
BlockedMove forest t moving =
    (stays forest (moving_id moving) ≡ true) ⊎ SomeOf (moved_nodes forest moving) (λ n. AtOrBelow forest n t)

-- Distinct nodes of the forest.
pub record AreNodes (forest : Forest) (moved : List ℕ) : Type 0 where
  pub once : IsDistinct moved
  pub known : EachOf moved (λ n. n < length forest.content)

-- Moving these nodes to the insertion point is allowed.
pub record AllowedList (forest : Forest) (gap : InsertionPoint) (moved : List ℕ) : Type 0 where
  pub target_known : target gap < length forest.content
  pub open_here : is_open gap forest ≡ true
  pub may : EachOf moved (MayPlace forest (target gap))

-- The condition for a move: the nodes that describe it exist, and the target isn't among the moved
-- nodes.
pub record CanMove (nodes : List TreeNode) (gap : InsertionPoint) (moving : MovedNodes) : Type 0 where
  pub linked : IsArenaOf (forest_of nodes) nodes
  pub target_known : target gap < length nodes
  pub known : moving_id moving < length nodes
  pub apart : is_member (target gap) (moved_nodes (forest_of nodes) moving) ≡ false

-- The nodes were detached and put at the insertion point, in their order.
abbrev pub MovedList : List TreeNode → List TreeNode → InsertionPoint → List ℕ → Type 0
MovedList old new gap moved = Edited old new (moved_to moved gap (forest_of old)) (AllowedList (forest_of old) gap moved)

-- The nodes that `moving` describes were moved.
abbrev pub Moves : List TreeNode → List TreeNode → InsertionPoint → MovedNodes → Type 0
Moves old new gap moving = MovedList old new gap (moved_nodes (forest_of old) moving)

-- The children of a node were detached. They are siblings of each other, as a run.
abbrev pub ChildrenRemoved : List TreeNode → List TreeNode → ℕ → Type 0
ChildrenRemoved old new x = Edited old new (detach (children_of (forest_of old) x) (forest_of old)) (Unit {0})

-- The forest with the children of x moved to the end of the children of p, or, without p, detached.
abbrev pub reparented : ℕ → Option ℕ → Forest → Forest
reparented x None forest = detach (children_of forest x) forest
reparented x (Some p) forest = moved_to (children_of forest x) (end_of p) forest

-- Moving the children is allowed; detaching them always is.
abbrev pub MayReparent : Forest → ℕ → Option ℕ → Type 0
MayReparent forest x None = Unit {0}
MayReparent forest x (Some p) = AllowedList forest (end_of p) (children_of forest x)

-- The children of x were moved or detached.
abbrev pub Reparents : List TreeNode → List TreeNode → ℕ → Option ℕ → Type 0
Reparents old new x p = Edited old new (reparented x p (forest_of old)) (MayReparent (forest_of old) x p)

-- The forest with x moved before t, and then t detached.
abbrev pub replaced : ℕ → ℕ → Forest → Forest
replaced t x forest = detach (t ∷ []) (moved_to (x ∷ []) (before_node t) forest)

-- The node t was replaced by x.
abbrev pub Replaced : List TreeNode → List TreeNode → ℕ → ℕ → Type 0
Replaced old new t x = Edited old new (replaced t x (forest_of old)) (Allowed (forest_of old) (before_node t) x)

-- The forest with w moved before x, and then x moved to the end of the children of w.
abbrev pub wrapped : ℕ → ℕ → Forest → Forest
wrapped x w forest = moved_to (x ∷ []) (end_of w) (moved_to (w ∷ []) (before_node x) forest)

-- Both steps of wrapping x in w are allowed.
pub record MayWrap (forest : Forest) (x w : ℕ) : Type 0 where
  pub beside : Allowed forest (before_node x) w
  pub parents_allow : children_allowed_at forest w ≡ true

-- The node x was wrapped in w.
abbrev pub Wrapped : List TreeNode → List TreeNode → ℕ → ℕ → Type 0
Wrapped old new x w = Edited old new (wrapped x w (forest_of old)) (MayWrap (forest_of old) x w)

-- Whether node n is an element.
abbrev pub element_at : Forest → ℕ → Bool
element_at forest n = option_map_or is_element (slice_get forest.content n) false

-- The parent of a node, if it is an element.
abbrev pub element_above : Forest → ℕ → Option ℕ
element_above forest n = option_and_then (λ p. if element_at forest p then Some p else None) (parent forest n)

-- The parent of x, if both the parent and the grandparent are elements.
abbrev pub wrapper : Forest → ℕ → Option ℕ
wrapper forest x = option_and_then (λ p. option_and_then (λ above. Some p) (element_above forest p)) (element_above forest x)

-- The forest with the children of p moved before p, and then p detached.
abbrev pub without_wrapper : Option ℕ → Forest → Forest
without_wrapper None forest = forest
without_wrapper (Some p) forest = detach (p ∷ []) (moved_to (children_of forest p) (before_node p) forest)

-- The forest with the parent of x replaced by its children, if both parent and grandparent are
-- elements.
abbrev pub unwrapped : ℕ → Forest → Forest
unwrapped x forest = without_wrapper (wrapper forest x) forest

-- The node x was unwrapped.
abbrev pub Unwrapped : List TreeNode → List TreeNode → ℕ → Type 0
Unwrapped old new x = Edited old new (unwrapped x (forest_of old)) (Unit {0})

-- A detached element without siblings and children.
pub record IsBare (forest : Forest) (w : ℕ) : Type 0 where
  pub element : element_at forest w ≡ true
  pub no_parent : parent forest w ≡ None
  pub alone : run_of forest w ≡ w ∷ []
  pub no_children : children_of forest w ≡ []
