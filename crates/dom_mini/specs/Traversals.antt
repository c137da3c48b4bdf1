-- Search among children, by a path of names or by a test.
use Rattle.std.specs.Prelude.{◌≡◌, ◌<◌, ◌⊎◌, ℕ, Bool, true, false, List, [], ◌∷◌, MatchBool, Option, Some, None, length, option_and_then}
use Rattle.dom_nodes.specs.declared.node_data.TreeNode.{TreeNode}
use Rattle.dom_links.specs.Forest.{Forest, children_of}
use Rattle.dom_links.specs.ListMoves.{element_at}
use Rattle.dom_trees.specs.Views.{IsAnswerOf, child_named}

-- the first child with the first name, its first child with the next name, and so on
abbrev pub child_by_names : Forest → ℕ → List (List ℕ) → Option ℕ
child_by_names forest n [] = Some n
child_by_names forest n (name ∷ names) = option_and_then (λ child. child_by_names forest child names) (child_named forest n name)

-- if the forest has node `n`, this is what the names lead to
abbrev pub FindsByNames : Forest → ℕ → List (List ℕ) → Option ℕ → Type 0
FindsByNames forest n names found = n < length forest.content → found ≡ child_by_names forest n names

-- the node is an element that passes the test
abbrev pub IsPassing : (TreeNode → Bool → Type 0) → Forest → ℕ → Type 0
IsPassing MayAnswer forest n = (element_at forest n ≡ true) × IsAnswerOf MayAnswer forest n true

-- the node is no element, or an element that fails the test
abbrev pub IsFailing : (TreeNode → Bool → Type 0) → Forest → ℕ → Type 0
IsFailing MayAnswer forest n = (element_at forest n ≡ false) ⊎ IsAnswerOf MayAnswer forest n false

-- the answer says which of the two is the case
abbrev pub DecidesPassing : (TreeNode → Bool → Type 0) → Forest → ℕ → Bool → Type 0
DecidesPassing MayAnswer forest n answer = MatchBool answer (IsPassing MayAnswer forest n) (IsFailing MayAnswer forest n)

-- the first of the nodes that passes; `None` if all fail
abbrev pub FindsFirst : (TreeNode → Bool → Type 0) → Forest → List ℕ → Option ℕ → Type 0
FindsFirst MayAnswer forest [] found = found ≡ None
FindsFirst MayAnswer forest (n ∷ ns) found =
    (IsPassing MayAnswer forest n × (found ≡ Some n)) ⊎ (IsFailing MayAnswer forest n × FindsFirst MayAnswer forest ns found)

-- the first child of `n` that passes; `None` if all fail
abbrev pub FindsChild : (TreeNode → Bool → Type 0) → Forest → ℕ → Option ℕ → Type 0
FindsChild MayAnswer forest n found = FindsFirst MayAnswer forest (children_of forest n) found
