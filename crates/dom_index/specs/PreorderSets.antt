-- Sets of the nodes of a preorder, and the numbers of tests that fill them.
use Rattle.std.specs.Prelude.{ℕ, ◌≡◌, ◌<◌, Bool, true, List, length}
use Rattle.std.specs.Global.{Vec}
use Rattle.std.specs.List.{flat_map}
use Rattle.dom_links.specs.Forest.{Forest}
use Rattle.dom_links.specs.Trees.{descendants_in_order}
use Rattle.dom_selectors.specs.declared.syntax.Combinator.{Combinator}
use Rattle.dom_selectors.specs.declared.syntax.Compound.{Compound}
use Rattle.dom_selectors.specs.declared.syntax.Nested.{Nested}
use Rattle.dom_selectors.specs.declared.syntax.Selector.{Selector}
use Rattle.dom_selectors.specs.declared.syntax.Step.{Step}
use Rattle.dom_selectors.specs.Syntax.{no_lists}
use Rattle.dom_selectors.specs.ValuesAsTrees.{read_compound, read_list, read_lists, read_nested, read_steps}
use Rattle.dom_index.specs.declared.preorder.Preorder.{Preorder}
use Rattle.dom_index.specs.Collected.{collected, set_left}
use Rattle.dom_index.specs.NodeSets.{AllHold, HasLeftOperand, HasRightOperand, IsPrefiltered, IsSetOf, IsSetWithin, in_set}
use Rattle.dom_index.specs.Orders.{IsEnd, number_at}
use Rattle.dom_index.specs.SelectorValues.{NestedHold}
use Rattle.dom_index.specs.TestCounts.{CompoundTests, HasTests, ListTests, ListsTests, RelativeTests, RestTests, SelectorTests, SelectorsTests}
use Rattle.dom_index.specs.TypeBytes.{lists_in}

-- how many nodes the preorder has
abbrev pub node_count : Preorder → ℕ
node_count preorder = length preorder.tree.now.content

-- the nodes for which the statement holds
abbrev pub IsSetWhere : Preorder → (Forest → ℕ → Type 0) → Vec Bool → Type 0
IsSetWhere preorder P table = IsSetOf table.items (node_count preorder) (P preorder.tree.now)

-- of the wanted nodes, those for which the statement holds
abbrev pub HasWanted : Preorder → List Bool → (Forest → ℕ → Type 0) → Vec Bool → Type 0
HasWanted preorder wanted P table = IsSetWithin wanted table.items (node_count preorder) (P preorder.tree.now)

-- the nodes of another set for which the statement holds
abbrev pub IsFiltered : Preorder → List Bool → (Forest → ℕ → Type 0) → Vec Bool → Type 0
IsFiltered preorder wanted P table = IsSetOf table.items (node_count preorder) (λ n. (in_set wanted n ≡ true) × P preorder.tree.now n)

-- the nodes that have a left operand in the set, and those that have a right operand in it
abbrev pub HaveLeftOperand : Preorder → Combinator → List Bool → Vec Bool → Type 0
HaveLeftOperand preorder k table = IsSetWhere preorder (λ forest. HasLeftOperand forest k table)

abbrev pub HaveRightOperand : Preorder → Combinator → List Bool → Vec Bool → Type 0
HaveRightOperand preorder k table = IsSetWhere preorder (λ forest. HasRightOperand forest k table)

-- the elements of the set below the roots, each once, root by root in document order
abbrev pub collected_below : Preorder → List Bool → List ℕ → List ℕ
collected_below preorder table roots = collected preorder.tree.now table (flat_map (descendants_in_order preorder.tree.now) roots)

-- those below one root, and what remains of the set without them
abbrev pub collected_at : Preorder → List Bool → ℕ → List ℕ
collected_at preorder table root = collected preorder.tree.now table (descendants_in_order preorder.tree.now root)

abbrev pub left_at : Preorder → List Bool → ℕ → List Bool
left_at preorder table root = set_left preorder.tree.now table (descendants_in_order preorder.tree.now root)

-- the nested lists match each node of the set
abbrev pub AllListsHold : Preorder → List Nested → List Bool → Type 0
AllListsHold preorder lists table = (n : ℕ) → n < node_count preorder → in_set table n ≡ true → NestedHold lists preorder.tree.now n

-- a subset that lacks only nodes that the compound selector doesn't match
abbrev pub LacksNoMatch : Preorder → Compound → List Bool → List Bool → Type 0
LacksNoMatch preorder c table other = IsPrefiltered preorder.tree.now (read_compound c) table other

-- the compound selector has no nested lists and matches each node of the set
abbrev pub AllMatch : Preorder → Compound → List Bool → Type 0
AllMatch preorder c table = (lists_in (read_compound c) ≡ no_lists) × AllHold preorder.tree.now (read_compound c) table

-- The numbers of tests that a step needs if these nodes are wanted: for a compound selector, for nested lists, for one of them,
-- for selectors, and for one selector.
abbrev pub CompoundAsks : Compound → Preorder → List Bool → ℕ → Type 0
CompoundAsks c preorder wanted tests = CompoundTests (read_compound c) preorder.tree.now wanted tests

abbrev pub ListsAsk : List Nested → Preorder → List Bool → ℕ → Type 0
ListsAsk lists preorder wanted tests = ListsTests (read_lists lists) preorder.tree.now wanted tests

abbrev pub ListAsks : Nested → Preorder → List Bool → ℕ → Type 0
ListAsks list preorder wanted tests = ListTests (read_nested list) preorder.tree.now wanted tests

abbrev pub SelectorsAsk : List Selector → Preorder → List Bool → ℕ → Type 0
SelectorsAsk selectors preorder wanted tests = SelectorsTests (read_list selectors) preorder.tree.now wanted tests

abbrev pub ChainAsks : Compound → List Step → Preorder → List Bool → ℕ → Type 0
ChainAsks first steps preorder wanted tests = SelectorTests (read_compound first) (read_steps steps) preorder.tree.now wanted tests

-- The numbers of tests that `:has` needs: for its relative selectors, for one of them, and for the steps of one.
abbrev pub HasAsks : List Selector → Preorder → ℕ → Type 0
HasAsks selectors preorder tests = HasTests (read_list selectors) preorder.tree.now tests

abbrev pub RelativeAsks : Compound → List Step → Preorder → ℕ → Type 0
RelativeAsks first steps preorder tests = RelativeTests (read_compound first) (read_steps steps) preorder.tree.now tests

abbrev pub RestAsks : List Step → Preorder → ℕ → Type 0
RestAsks steps preorder tests = RestTests (read_steps steps) preorder.tree.now tests

-- the position of `n`
abbrev pub place_of : Preorder → ℕ → ℕ
place_of preorder n = number_at preorder.places.items n

-- of the nodes of the set at earlier positions, all subtrees end before `end`
abbrev pub IsFurthestEnd : Preorder → List Bool → ℕ → ℕ → Type 0
IsFurthestEnd preorder table place end = IsEnd preorder.tree.now preorder.places.items preorder.subtree_ends.items table place end
