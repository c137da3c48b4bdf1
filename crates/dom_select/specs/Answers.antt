-- What is computed before a compound selector is tested at a node: the answers of its nested lists, and indexes of the node.
use Rattle.std.specs.Prelude.{◌≡◌, ℕ, List, [], ◌∷◌, Bool, Some, map, slice_get, slice_index_or}
use Rattle.dom_links.specs.Forest.{Forest}
use Rattle.dom_links.specs.Indexes.{index_at}
use Rattle.dom_nodes.specs.declared.indexes.IndexKind.{IndexKind}
use Rattle.dom_nodes.specs.declared.indexes.IndexKind.TheVariants.{Child, LastChild, OfType, LastOfType}
use Rattle.dom_selectors.specs.Spelling.{Decides}
use Rattle.dom_selectors.specs.declared.syntax.Compound.{Compound}
use Rattle.dom_selectors.specs.declared.syntax.Part.{Part}
use Rattle.dom_selectors.specs.declared.syntax.Part.TheVariants.{Position}
use Rattle.dom_selectors.specs.ListsAsTrees.{lists_of}
use Rattle.dom_selectors.specs.Syntax.{NestedLists, no_lists, nested}
use Rattle.dom_selectors.specs.ValuesAsTrees.{read_nested}
use Rattle.dom_select.specs.Meaning.{ListHolds}

-- each answer says whether the nested list at the same position matches node `n`
abbrev pub AreAnswers : NestedLists → Forest → ℕ → List Bool → Type 0
AreAnswers no_lists forest n answers = answers ≡ []
AreAnswers (nested list more) forest n [] = ⊥
AreAnswers (nested list more) forest n (b ∷ answers) = Decides b (ListHolds list forest n) × AreAnswers more forest n answers

-- each answer says whether the nested list at the same position in the program's compound selector matches node `n`
abbrev pub AreAnswersAt : Compound → Forest → ℕ → List Bool → Type 0
AreAnswersAt compound forest n answers = AreAnswers (lists_of (map read_nested compound.nested.items)) forest n answers

-- the place of an index of this kind among the four indexes of a node
abbrev pub kind_place : IndexKind → ℕ
kind_place Child = 0
kind_place LastChild = 1
kind_place OfType = 2
kind_place LastOfType = 3

-- the index of this kind is that of node `n`
abbrev pub HasIndex : IndexKind → Forest → ℕ → List ℕ → Type 0
HasIndex kind forest n indexes = slice_index_or indexes (kind_place kind) 0 ≡ index_at kind forest n

-- if the simple selector asks for an index, it is that of node `n`
abbrev pub HasIndexFor : Part → Forest → ℕ → List ℕ → Type 0
HasIndexFor (Position position) forest n indexes = HasIndex position.kind forest n indexes
HasIndexFor _ forest n indexes = Unit {0}

-- the same for each of the simple selectors
abbrev pub AreIndexesFor : List Part → Forest → ℕ → List ℕ → Type 0
AreIndexesFor parts forest n indexes = (i : ℕ) (part : Part) → slice_get parts i ≡ Some part → HasIndexFor part forest n indexes

-- the answers are those of the compound selector's nested lists at node `n`, and each index that it asks for is that of node `n`
abbrev pub AreKnown : Compound → Forest → ℕ → List Bool → List ℕ → Type 0
AreKnown compound forest n answers indexes = AreAnswersAt compound forest n answers × AreIndexesFor compound.parts.items forest n indexes
