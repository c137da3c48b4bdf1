-- How a path of descendant combinators is matched in one traversal. For each node to be visited it is known how many steps are
-- matched by its ancestors, one below the other.
use Rattle.std.specs.Prelude.{◌≡◌, ◌<◌, ◌+◌, ℕ, zero, suc, List, [], ◌∷◌, ◌++◌, Bool, true, false, Option, Some, None, length, replicate}
use Rattle.std.specs.List.{list_all}
use Rattle.dom_nodes.specs.declared.node_data.NodeData.{NodeData}
use Rattle.dom_links.specs.Forest.{Forest}
use Rattle.dom_links.specs.Trees.{walk}
use Rattle.dom_selectors.specs.MiniSyntax.{Mini, combinator_of}
use Rattle.dom_mini.specs.PathFlags.{flags_below, led_in, row_of}
use Rattle.dom_select.specs.Has.{is_deep}

abbrev pub goes_down : List Mini → Bool
goes_down minis = list_all (λ mini. is_deep (combinator_of mini)) minis

-- the flags at a node whose ancestors match this many steps: those of these steps and of the next one are set
abbrev pub flags_after : List Mini → ℕ → List Bool
flags_after [] passed = []
flags_after (mini ∷ minis) zero = true ∷ replicate (length minis) false
flags_after (mini ∷ minis) (suc passed) = true ∷ flags_after minis passed

-- `below` steps are matched at or above the children of the node, if `passed` are matched above the node
pub record IsPassed (minis : List Mini) (node : NodeData) (passed below : ℕ) : Type 0 where
  pub flags : flags_below minis node false (flags_after minis passed) ≡ flags_after minis below
  pub few : below < length minis

-- a node to be visited, if there is one, with the number of steps that are matched above it
abbrev pub waiting : Option ℕ → ℕ → List (ℕ × ℕ)
waiting None passed = []
waiting (Some n) passed = (n, passed) ∷ []

-- the nodes to be visited are nodes of the forest, and at each of them a step is left
abbrev pub AreWaiting : Forest → ℕ → List (ℕ × ℕ) → Type 0
AreWaiting forest steps [] = Unit {0}
AreWaiting forest steps (w ∷ ws) = ((w.0 < length forest.content) × (w.1 < steps)) × AreWaiting forest steps ws

-- what is still to be found from the nodes to be visited; the last of them is visited first
abbrev pub still_found : Forest → List Mini → List (ℕ × ℕ) → List ℕ
still_found forest minis [] = []
still_found forest minis (w ∷ ws) = still_found forest minis ws ++ led_in forest minis (flags_after minis w.1) (row_of forest w.0)

-- how many nodes may still be visited
abbrev pub still_visited : Forest → List (ℕ × ℕ) → ℕ
still_visited forest [] = 0
still_visited forest (w ∷ ws) = length (walk (row_of forest w.0)) + still_visited forest ws

-- a traversal in progress that finds the nodes `all` in total
pub record IsDescent (forest : Forest) (minis : List Mini) (all found : List ℕ) (ws : List (ℕ × ℕ)) : Type 0 where
  pub known : AreWaiting forest (length minis) ws
  pub whole : found ++ still_found forest minis ws ≡ all
