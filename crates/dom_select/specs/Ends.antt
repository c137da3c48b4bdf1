-- The types of the nodes that a selector can match.
use Rattle.std.specs.Prelude.{◌≡◌, ◌↔◌, ℕ, Bool, IsTrue, List, Some, map, slice_get}
use Rattle.dom_nodes.specs.declared.node_data.NodeData.{NodeData}
use Rattle.dom_links.specs.Forest.{Forest}
use Rattle.dom_selectors.specs.declared.syntax.Combinator.{Combinator}
use Rattle.dom_selectors.specs.declared.syntax.Compound.{Compound}
use Rattle.dom_selectors.specs.declared.syntax.Step.{Step}
use Rattle.dom_selectors.specs.ListsAsTrees.{steps_of}
use Rattle.dom_selectors.specs.Syntax.{CompoundSelector}
use Rattle.dom_selectors.specs.ValuesAsTrees.{read_compound, read_step}
use Rattle.dom_select.specs.declared.matcher.has.Start.{Start}
use Rattle.dom_select.specs.declared.matcher.has.Start.TheVariants.{Absolute}
use Rattle.dom_select.specs.Has.{Begins, CompoundsMatch}
use Rattle.dom_select.specs.Meaning.{ChainMatches, HasType, Holds}

-- the compound selector matches only elements of this type
abbrev pub ImpliesType : List ℕ → CompoundSelector → Type 0
ImpliesType name c = (forest : Forest) (n : ℕ) → Holds c forest n → HasType name forest n

-- the chain of compound selectors matches only elements of this type
abbrev pub SubjectImpliesType : List ℕ → CompoundSelector → List (Combinator × CompoundSelector) → Type 0
SubjectImpliesType name first steps = (start : Start) (forest : Forest) (exempt n : ℕ) → ChainMatches (Begins start first forest) (steps_of steps) forest exempt n → HasType name forest n

-- a chain, in the program's representation, that matches only elements of this type
abbrev pub IsSubjectType : Compound → List Step → List ℕ → Type 0
IsSubjectType first steps name = SubjectImpliesType name (read_compound first) (map read_step steps)

-- the answer says whether the chain matches a node with this data
abbrev pub AreDecided : Compound → List Step → NodeData → Bool → Type 0
AreDecided first steps node answer = (forest : Forest) (n : ℕ) → slice_get forest.content n ≡ Some node → IsTrue answer ↔ CompoundsMatch Absolute first steps forest n
