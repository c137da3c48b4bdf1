-- What writing the links of several siblings leaves in an arena. These definitions appear in no
-- contract of a public function.
use Rattle.std.specs.Prelude.{ℕ, ◌≡◌, ◌<◌, List, Option, Some, length, if◌then◌else◌}
use Rattle.std.specs.Option.{IfSome}
use Rattle.dom_nodes.specs.declared.node_data.TreeNode.{TreeNode}
use Rattle.dom_links.specs.Lists.{is_member, last}
use Rattle.dom_links.specs.Forest.{parent_link, prev_link, next_link, first_link, last_link, chain}
use Rattle.dom_links.specs.Writes.{Joined, Relinked}
use Rattle.dom_links.specs.declared.ops.moves.ResolvedPoint.{ResolvedPoint}

-- A node and all that follow it by next links.
abbrev pub next_chain : List TreeNode → ℕ → List ℕ
next_chain nodes x = chain (next_link nodes) (length nodes) (Some x)

-- All next links lead to nodes of the arena.
abbrev pub NextsKnown : List TreeNode → Type 0
NextsKnown nodes = (n : ℕ) → n < length nodes → IfSome (next_link nodes n) (λ m. m < length nodes)

-- The parent and the neighbours of an insertion point have ids below `count`.
pub record IsPointIn (count : ℕ) (point : ResolvedPoint) : Type 0 where
  pub owner : IfSome point.owner (λ n. n < count)
  pub left : IfSome point.left (λ n. n < count)
  pub right : IfSome point.right (λ n. n < count)

-- The nodes now have this parent.
abbrev pub ParentsSet : List TreeNode → List TreeNode → List ℕ → Option ℕ → Type 0
ParentsSet old new moved owner =
    Relinked old new (λ n. if is_member n moved then owner else parent_link old n) (next_link old) (prev_link old)
    (first_link old) (last_link old)

-- The node x and all that follow it are now linked between left and right below owner.
pub record RunAttached (old new : List TreeNode) (x : ℕ) (owner left right : Option ℕ) : Type 0 where
  pub end : ℕ
  pub set : List TreeNode
  pub left_joined : List TreeNode
  pub parents_set : ParentsSet old set (next_chain old x) owner
  pub ends : last (next_chain old x) ≡ Some end
  pub on_left : Joined set left_joined owner left (Some x)
  pub on_right : Joined left_joined new owner (Some end) right
