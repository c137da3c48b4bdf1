-- Moves and queries of a small forest, worked by hand. The root 0 has the child 1, which has the
-- children 2, 3 and 4. The nodes 5 and 6 are detached.
use Rattle.std.specs.Prelude.{ℕ, ◌≡◌, true, List, [], ◌∷◌, Some, None}
use Rattle.dom_nodes.specs.declared.node_data.NodeData.{NodeData}
use Rattle.dom_links.specs.Forest.{Forest, parent, siblings}
use Rattle.dom_links.specs.Lists.{first, last, after, before}
use Rattle.dom_links.specs.Moves.{end_of, front_of, before_node, after_node, detach, moved_to}
use Rattle.dom_links.specs.Trees.{ancestors, in_order, limited, descendants_in_order}

-- A list of one node.
abbrev pub one : ℕ → List ℕ
one n = n ∷ []

-- The small forest.
abbrev pub small : List NodeData → Forest
small content = record {
  content = content;
  children = one 1 ∷ (2 ∷ 3 ∷ 4 ∷ []) ∷ [] ∷ [] ∷ [] ∷ [] ∷ [] ∷ [];
  runs = one 0 ∷ [] ∷ [] ∷ [] ∷ [] ∷ one 5 ∷ one 6 ∷ [];
}

pub record WorkedMoves (content : List NodeData) : Type 0 where
  -- The node 3 with its later sibling 4 is moved to the end of the children of 5.
  pub appended : moved_to (3 ∷ 4 ∷ []) (end_of 5) (small content) ≡ record (small content) { children = one 1 ∷ one 2 ∷ [] ∷ [] ∷ [] ∷ (3 ∷ 4 ∷ []) ∷ [] ∷ [] }
  -- A whole list of siblings is moved to the front of the children of 5.
  pub prepended : moved_to (2 ∷ 3 ∷ 4 ∷ []) (front_of 5) (small content) ≡ record (small content) { children = one 1 ∷ [] ∷ [] ∷ [] ∷ [] ∷ (2 ∷ 3 ∷ 4 ∷ []) ∷ [] ∷ [] }
  -- A list is moved before the detached node 5, whose run grows.
  pub run_grown : moved_to (2 ∷ 3 ∷ 4 ∷ []) (before_node 5) (small content) ≡
      record (small content) { children = one 1 ∷ [] ∷ [] ∷ [] ∷ [] ∷ [] ∷ [] ∷ []; runs = one 0 ∷ [] ∷ (2 ∷ 3 ∷ 4 ∷ 5 ∷ []) ∷ (2 ∷ 3 ∷ 4 ∷ 5 ∷ []) ∷ (2 ∷ 3 ∷ 4 ∷ 5 ∷ []) ∷ (2 ∷ 3 ∷ 4 ∷ 5 ∷ []) ∷ one 6 ∷ [] }
  pub after_two : moved_to (one 4) (after_node 2) (small content) ≡ record (small content) { children = one 1 ∷ (2 ∷ 4 ∷ 3 ∷ []) ∷ [] ∷ [] ∷ [] ∷ [] ∷ [] ∷ [] }
  -- Node 3 is moved to where it is already.
  pub before_four : moved_to (one 3) (before_node 4) (small content) ≡ small content
  pub below_two : moved_to (one 4) (end_of 2) (small content) ≡ record (small content) { children = one 1 ∷ (2 ∷ 3 ∷ []) ∷ one 4 ∷ [] ∷ [] ∷ [] ∷ [] ∷ [] }
  -- The children of 1 are detached and become one run; then 5 is moved before 3.
  pub run_split : moved_to (one 5) (before_node 3) (detach (2 ∷ 3 ∷ 4 ∷ []) (small content)) ≡
      record (small content) { children = one 1 ∷ [] ∷ [] ∷ [] ∷ [] ∷ [] ∷ [] ∷ []; runs = one 0 ∷ [] ∷ (2 ∷ 5 ∷ 3 ∷ 4 ∷ []) ∷ (2 ∷ 5 ∷ 3 ∷ 4 ∷ []) ∷ (2 ∷ 5 ∷ 3 ∷ 4 ∷ []) ∷ (2 ∷ 5 ∷ 3 ∷ 4 ∷ []) ∷ one 6 ∷ [] }
  -- Detaching a node that is detached already changes nothing.
  pub alone_stays : detach (one 5) (small content) ≡ small content

pub record WorkedWalks (content : List NodeData) : Type 0 where
  pub above_three : parent (small content) 3 ≡ Some 1
  pub above_five : parent (small content) 5 ≡ None
  pub beside_three : siblings (small content) 3 ≡ 2 ∷ 3 ∷ 4 ∷ []
  pub after_three : after (siblings (small content) 3) 3 ≡ Some 4
  pub before_three : before (siblings (small content) 3) 3 ≡ Some 2
  pub before_two : before (siblings (small content) 2) 2 ≡ None
  pub ends : (first (2 ∷ 3 ∷ 4 ∷ []) ≡ Some 2) × (last (2 ∷ 3 ∷ 4 ∷ []) ≡ Some 4)
  pub below_root : descendants_in_order (small content) 0 ≡ 1 ∷ 2 ∷ 3 ∷ 4 ∷ []
  pub below_five : descendants_in_order (small content) 5 ≡ []
  pub up_from_four : ancestors (small content) 4 ≡ 1 ∷ 0 ∷ []
  pub one_up : limited (Some 1) (ancestors (small content) 4) ≡ one 1
  pub all_up : limited (Some 0) (ancestors (small content) 4) ≡ 1 ∷ 0 ∷ []
  pub backwards : in_order true (2 ∷ 3 ∷ 4 ∷ []) ≡ 4 ∷ 3 ∷ 2 ∷ []
