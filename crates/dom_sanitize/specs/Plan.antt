-- The plan of a sanitizer: what becomes of each node, and the moves that follow from that. These
-- definitions appear in no contract of a public function.
use Rattle.std.specs.Prelude.{ℕ, ◌+◌, ◌<◌, ◌≡◌, ◌==◌, ◌&&◌, ◌||◌, Bool, true, false, if◌then◌else◌, is_some, List, [], ◌∷◌, ◌++◌, Option, Some, None, length}
use Rattle.dom_nodes.specs.Changes.{only_names, with_attrs}
use Rattle.dom_links.specs.Contents.{with_content}
use Rattle.dom_links.specs.Forest.{Forest, children_of}
use Rattle.dom_links.specs.declared.gap.InsertionPoint.TheVariants.{FrontOf}
use Rattle.dom_links.specs.Moves.{detach, moved_to}
use Rattle.dom_links.specs.Sound.{AtOrBelow, children_allowed_at, stays}
use Rattle.dom_links.specs.Trees.{Trees, NoTrees, Tree, trees, walk}
use Rattle.dom_links.specs.Walk.{row_on}
use Rattle.dom_sanitize.specs.Clean.{Lists, fate_at}
use Rattle.dom_sanitize.specs.declared.plan.Fate.{Fate}
use Rattle.dom_sanitize.specs.declared.plan.Fate.TheVariants.{Stay, Unwrap, Vanish}
use Rattle.dom_sanitize.specs.declared.plan.Row.{Row}
use Rattle.dom_sanitize.specs.declared.plan.Step.{Step}

-- The new parent of a node, if it stays.
abbrev pub home_of : Fate → ℕ → Option ℕ
home_of Stay home = Some home
home_of _ home = None

-- The steps for the children of a node, depending on what becomes of the node.
abbrev pub steps_under : Fate → (staying unwrapped : List Step) → List Step
steps_under Stay staying unwrapped = staying
steps_under Unwrap staying unwrapped = unwrapped
steps_under Vanish staying unwrapped = []

-- The steps for the nodes of trees. Those that stay become children of `home`.
abbrev pub planned : Lists → Forest → ℕ → Trees → List Step
planned allow forest home NoTrees = []
planned allow forest home (Tree n contents children later) =
    record { id = n; home = home_of (fate_at allow forest n) home }
    ∷ steps_under (fate_at allow forest n) (planned allow forest n children) (planned allow forest home children)
    ++ planned allow forest home later

-- The steps for all nodes below the root.
abbrev pub plan_of : Lists → Forest → List Step
plan_of allow forest = planned allow forest 0 (trees forest (children_of forest 0))

-- The steps for a node and its later siblings.
abbrev pub row_plan : Lists → Forest → Option ℕ → ℕ → List Step
row_plan allow forest first home = planned allow forest home (trees forest (row_on forest false first))

-- The steps for the rows of a stack.
abbrev pub rows_plan : Lists → Forest → List Row → List Step
rows_plan allow forest [] = []
rows_plan allow forest (row ∷ rows) = row_plan allow forest (Some row.first) row.home ++ rows_plan allow forest rows

-- The number of nodes in the rows and below them.
abbrev pub rows_weight : Forest → List Row → ℕ
rows_weight forest [] = 0
rows_weight forest (row ∷ rows) = length (walk (trees forest (row_on forest false (Some row.first)))) + rows_weight forest rows

-- The stack with one more row, if there is a node.
abbrev pub with_row : Option ℕ → ℕ → List Row → List Row
with_row None home rows = rows
with_row (Some n) home rows = record { first = n; home = home } ∷ rows

-- The rows begin at nodes of the forest.
abbrev pub AreRows : Forest → List Row → Type 0
AreRows forest [] = Unit {0}
AreRows forest (row ∷ rows) = (row.first < length forest.content) × AreRows forest rows

-- The stack with the children of the first node of a row, unless they are removed with it.
abbrev pub with_below : Fate → Option ℕ → Row → List Row → List Row
with_below Stay below row rows = with_row below row.first rows
with_below Unwrap below row rows = with_row below row.home rows
with_below Vanish below row rows = rows

-- One node was planned: the steps so far and those of the rows that are left are the same list as
-- before, and fewer nodes are left.
pub record LooksAt (allow : Lists) (forest : Forest) (row : Row) (old new : List Row) (before after : List Step) : Type 0 where
  pub within : AreRows forest new
  pub whole : after ++ rows_plan allow forest new ≡ before ++ rows_plan allow forest (row ∷ old)
  pub fewer : rows_weight forest new < rows_weight forest (row ∷ old)

-- The forest after a move for each step, the last step first.
abbrev pub all_done : (Step → Forest → Forest) → List Step → Forest → Forest
all_done move [] forest = forest
all_done move (step ∷ steps) forest = move step (all_done move steps forest)

-- The forest with the node of a step detached.
abbrev pub cut_one : Step → Forest → Forest
cut_one step forest = detach (step.id ∷ []) forest

-- The forest with the node of a step, if it stays, put before the other children of its new parent.
abbrev pub put_one : Step → Forest → Forest
put_one step forest = put_at step.home step.id forest
  where
    put_at : Option ℕ → ℕ → Forest → Forest
    put_at None n forest = forest
    put_at (Some home) n forest = moved_to (n ∷ []) (FrontOf home) forest

-- The forest in which the node of a step, if it stays, has only the attributes with these names.
abbrev pub clear_one : List (List ℕ) → Step → Forest → Forest
clear_one names step forest = clear_at step.home step.id forest
  where
    clear_at : Option ℕ → ℕ → Forest → Forest
    clear_at None n forest = forest
    clear_at (Some home) n forest = with_content n (with_attrs (only_names names)) forest

-- P is true of each step.
abbrev pub EachStep : (Step → Type 0) → List Step → Type 0
EachStep P [] = Unit {0}
EachStep P (step ∷ steps) = P step × EachStep P steps

-- The node of the step exists.
abbrev pub IsKnown : Forest → Step → Type 0
IsKnown forest step = step.id < length forest.content

-- The node may be put before the other children of `home`.
pub record MayPutAt (forest : Forest) (n home : ℕ) : Type 0 where
  pub known : n < length forest.content
  pub home_known : home < length forest.content
  pub bearing : children_allowed_at forest home ≡ true
  pub moves : stays forest n ≡ false
  pub apart : AtOrBelow forest n home → ⊥

-- The node of the step doesn't stay, or may be put at its new place.
abbrev pub MayPut : Forest → Step → Type 0
MayPut forest step = may step.home step.id
  where
    may : Option ℕ → ℕ → Type 0
    may None n = Unit {0}
    may (Some home) n = MayPutAt forest n home

-- Each move is allowed after the moves of the later steps.
abbrev pub MayPutAll : Forest → List Step → Type 0
MayPutAll forest [] = Unit {0}
MayPutAll forest (step ∷ steps) = MayPut (all_done put_one steps forest) step × MayPutAll forest steps

-- The ids of the nodes of the steps.
abbrev pub ids : List Step → List ℕ
ids [] = []
ids (step ∷ steps) = step.id ∷ ids steps

-- Whether this is the new parent.
abbrev pub is_home : Option ℕ → ℕ → Bool
is_home None n = false
is_home (Some home) n = home == n

-- The nodes that become children of n.
abbrev pub homed : ℕ → List Step → List ℕ
homed n [] = []
homed n (step ∷ steps) = if is_home step.home n then step.id ∷ homed n steps else homed n steps

-- Whether node n stays.
abbrev pub staying : ℕ → List Step → Bool
staying n [] = false
staying n (step ∷ steps) = ((step.id == n) && is_some step.home) || staying n steps
