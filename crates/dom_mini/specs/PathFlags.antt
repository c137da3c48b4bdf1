-- How a path is matched in one traversal. Each node to be visited has a flag for each step: whether the step's combinator relates
-- it to a node that the steps before reach.
use Rattle.std.specs.Prelude.{◌≡◌, ◌<◌, ◌≤◌, ◌+◌, ◌-◌, ◌⊎◌, ℕ, List, [], ◌∷◌, ◌++◌, Bool, false, ◌&&◌, ◌||◌, not, Option, Some, None, length, take, drop, slice_index_or, if◌then◌else◌}
use Rattle.std.specs.List.{list_any}
use Rattle.dom_nodes.specs.Kinds.{is_element}
use Rattle.dom_nodes.specs.declared.node_data.NodeData.{NodeData}
use Rattle.dom_nodes.specs.declared.node_data.NodeData.TheVariants.{Document}
use Rattle.dom_links.specs.Copying.{AreNodesOf}
use Rattle.dom_links.specs.Forest.{Forest, children_of}
use Rattle.dom_links.specs.Trees.{Trees, NoTrees, Tree, trees, walk}
use Rattle.dom_links.specs.Walk.{later}
use Rattle.dom_selectors.specs.declared.syntax.Combinator.{Combinator}
use Rattle.dom_selectors.specs.declared.syntax.Combinator.TheVariants.{Descendant, Child, Adjacent, Sibling}
use Rattle.dom_selectors.specs.MiniSyntax.{Mini, combinator_of}
use Rattle.dom_selectors.specs.MiniTruth.{node_passes}
use Rattle.dom_select.specs.Has.{is_sideways}
use Rattle.dom_mini.specs.declared.mini_selector.search.PathSearch.{PathSearch}
use Rattle.dom_select.specs.Selected.{one_if}

-- The flag at a node, computed from the next node to its left: `here` says that the steps before reach that node, and `on` is its
-- flag.
abbrev pub passed_on : Combinator → Bool → Bool → Bool → Bool
passed_on Descendant element here on = here || on
passed_on Child element here on = here
passed_on Adjacent element here on = here || (not element && on)
passed_on Sibling element here on = here || on

-- the flag at the first child, and the flag at the next sibling
abbrev pub flag_below : Combinator → Bool → Bool → Bool → Bool
flag_below k element here on = if is_sideways k then false else passed_on k element here on

abbrev pub flag_beside : Combinator → Bool → Bool → Bool → Bool
flag_beside k element here on = if is_sideways k then passed_on k element here on else on

-- the flags of all steps at another node, where `flag` says what each becomes there
abbrev pub flags_at : (Combinator → Bool → Bool → Bool → Bool) → List Mini → NodeData → Bool → List Bool → List Bool
flags_at flag [] node here flags = []
flags_at flag (mini ∷ minis) node here [] = []
flags_at flag (mini ∷ minis) node here (on ∷ flags) = flag (combinator_of mini) (is_element node) here on ∷ flags_at flag minis node (on && node_passes mini node) flags

-- the flags at the first child, and those at the next sibling
abbrev pub flags_below : List Mini → NodeData → Bool → List Bool → List Bool
flags_below minis node here flags = flags_at flag_below minis node here flags

abbrev pub flags_beside : List Mini → NodeData → Bool → List Bool → List Bool
flags_beside minis node here flags = flags_at flag_beside minis node here flags

-- whether the whole path reaches the node
abbrev pub is_led : List Mini → NodeData → Bool → List Bool → Bool
is_led [] node here flags = here
is_led (mini ∷ minis) node here [] = false
is_led (mini ∷ minis) node here (on ∷ flags) = is_led minis node (on && node_passes mini node) flags

-- a node's data, or that of a document if the forest has no such node
abbrev pub data_at : Forest → ℕ → NodeData
data_at forest n = slice_index_or forest.content n Document

-- the nodes of some trees that the path reaches, from the flags at the root of the first tree
abbrev pub led_in : Forest → List Mini → List Bool → Trees → List ℕ
led_in forest minis flags NoTrees = []
led_in forest minis flags (Tree n contents children later) =
    one_if (is_led minis (data_at forest n) false flags) n
    ++ (led_in forest minis (flags_below minis (data_at forest n) false flags) children
    ++ led_in forest minis (flags_beside minis (data_at forest n) false flags) later)

-- the nodes that the path reaches among `n`, its descendants, and its later siblings and their descendants, from the flags at `n`
abbrev pub led_from : Forest → List Mini → Bool → List Bool → ℕ → List ℕ
led_from forest minis here flags n =
    one_if (is_led minis (data_at forest n) here flags) n
    ++ (led_in forest minis (flags_below minis (data_at forest n) here flags) (trees forest (children_of forest n))
    ++ led_in forest minis (flags_beside minis (data_at forest n) here flags) (trees forest (later forest false n)))

-- the trees of a node and of its later siblings
abbrev pub row_of : Forest → ℕ → Trees
row_of forest n = trees forest (n ∷ later forest false n)

-- each of the nodes to be visited has as many flags as there are steps
abbrev pub HaveFlags : ℕ → List ℕ → List Bool → Type 0
HaveFlags steps [] flags = flags ≡ []
HaveFlags steps (n ∷ ns) flags = (steps ≤ length flags) × HaveFlags steps ns (drop steps flags)

-- what is still to be found from the nodes to be visited; the last of them is visited first
abbrev pub to_find : Forest → List Mini → List ℕ → List Bool → List ℕ
to_find forest minis [] flags = []
to_find forest minis (n ∷ ns) flags =
    to_find forest minis ns (drop (length minis) flags) ++ led_in forest minis (take (length minis) flags) (row_of forest n)

-- how many nodes may still be visited
abbrev pub to_visit : Forest → List ℕ → ℕ
to_visit forest [] = 0
to_visit forest (n ∷ ns) = length (walk (row_of forest n)) + to_visit forest ns

-- a traversal in progress: each node to be visited is a node of the forest and has its flags
pub record IsSearch (forest : Forest) (minis : List Mini) (search : PathSearch) : Type 0 where
  pub known : AreNodesOf forest search.pending.items
  pub flags : HaveFlags (length minis) search.pending.items search.flags.items
  pub below : length search.below.items ≡ length minis

-- all that a traversal finds in total
abbrev pub found_by : Forest → List Mini → PathSearch → List ℕ
found_by forest minis search = search.found.items ++ to_find forest minis search.pending.items search.flags.items

-- the flags of all nodes to be visited but the last, and the flags of the last
abbrev pub flags_before : List Mini → List Bool → List Bool
flags_before minis flags = take (length flags - length minis) flags

abbrev pub last_flags : List Mini → List Bool → List Bool
last_flags minis flags = drop (length flags - length minis) flags

-- The last flags became those of the next sibling, and `below` became those of the first child.
pub record IsStepped (minis : List Mini) (node : NodeData) (here : Bool) (old new : PathSearch) : Type 0 where
  pub beside : new.flags.items ≡ flags_before minis old.flags.items ++ flags_beside minis node here (last_flags minis old.flags.items)
  pub below : new.below.items ≡ flags_below minis node here (last_flags minis old.flags.items)
  pub found : new.found.items ≡ old.found.items
  pub pending : new.pending.items ≡ old.pending.items

-- a traversal in progress, in which the last flags are those of the node that is visited now
pub record IsVisit (forest : Forest) (minis : List Mini) (search : PathSearch) : Type 0 where
  pub known : AreNodesOf forest search.pending.items
  pub room : length minis ≤ length search.flags.items
  pub flags : HaveFlags (length minis) search.pending.items (flags_before minis search.flags.items)
  pub below : length search.below.items ≡ length minis

-- the node was visited
pub record IsVisited (forest : Forest) (minis : List Mini) (n : ℕ) (here : Bool) (old new : PathSearch) : Type 0 where
  pub search : IsSearch forest minis new
  pub found : found_by forest minis new
      ≡ old.found.items ++ (led_from forest minis here (last_flags minis old.flags.items) n ++ to_find forest minis old.pending.items (flags_before minis old.flags.items))
  pub fewer : to_visit forest new.pending.items < length (walk (row_of forest n)) + to_visit forest old.pending.items

abbrev pub is_any : List Bool → Bool
is_any flags = list_any (λ on. on) flags

-- If there is a node and one of its flags is set, the node was appended to the nodes to be visited, and its flags to theirs.
abbrev pub IsPutBehind : Option ℕ → List Bool → List Bool → List ℕ → List ℕ → List Bool → Type 0
IsPutBehind next front flags pending new_pending new_flags =
    ((n : ℕ) × (next ≡ Some n) × (new_pending ≡ pending ++ n ∷ []) × (new_flags ≡ front ++ flags))
    ⊎ (((next ≡ None) ⊎ (is_any flags ≡ false)) × (new_pending ≡ pending) × (new_flags ≡ front))

-- the node and its flags were appended, on that condition, in the state of a traversal, and the rest of the state is unchanged
pub record IsWaiting (next : Option ℕ) (front flags : List Bool) (old new : PathSearch) : Type 0 where
  pub put : IsPutBehind next front flags old.pending.items new.pending.items new.flags.items
  pub found : new.found.items ≡ old.found.items
  pub below : new.below.items ≡ old.below.items
