-- The types of the elements that selectors can match, by the numbers of their names.
use Rattle.std.specs.Prelude.{◌≡◌, ℕ, List, Bool, true, false, Option, Some, IfSome, slice_get, slice_index_or}
use Rattle.dom_nodes.specs.declared.node_data.NodeData.{NodeData}
use Rattle.dom_nodes.specs.declared.node_data.NodeData.TheVariants.{Element}
use Rattle.dom_nodes.specs.declared.name.Namespace.TheVariants.{Html}
use Rattle.dom_nodes.specs.Kinds.{is_element}
use Rattle.dom_nodes.specs.KnownNames.{HasNumber}
use Rattle.dom_links.specs.Forest.{Forest}
use Rattle.dom_selectors.specs.Syntax.{SelectorList}
use Rattle.dom_select.specs.Meaning.{MatchesNode}

-- An element whose name has a number with a flag, or has no number, or that is not in the HTML namespace.
abbrev pub MayBear : List Bool → NodeData → Type 0
MayBear types (Element element) = element.name.ns ≡ Html → (number : ℕ) → HasNumber element.name.local number → slice_index_or types number false ≡ true
MayBear types _ = ⊥

-- the selectors match only such elements
abbrev pub SubjectIsAmong : List Bool → SelectorList → Type 0
SubjectIsAmong types list = (forest : Forest) (n : ℕ) (node : NodeData) → slice_get forest.content n ≡ Some node → MatchesNode list forest n → MayBear types node

-- the node is an element, and if types are known, it may have one of them
abbrev pub MayBeSubject : Option (List Bool) → NodeData → Type 0
MayBeSubject types node = (is_element node ≡ true) × IfSome types (λ types. MayBear types node)
