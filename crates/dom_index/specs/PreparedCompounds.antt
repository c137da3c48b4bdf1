-- Compound selectors that are prepared for tests.
use Rattle.std.specs.Prelude.{ℕ, ◌≡◌, ◌<◌, length, map, IfSome}
use Rattle.dom_links.specs.Forest.{Forest}
use Rattle.dom_selectors.specs.ListsAsTrees.{lists_of}
use Rattle.dom_selectors.specs.ValuesAsTrees.{read_compound, read_nested}
use Rattle.dom_select.specs.Answers.{AreAnswers}
use Rattle.dom_index.specs.declared.node_set.PreparedCompound.{PreparedCompound}
use Rattle.dom_index.specs.TypeBytes.{IsTypeFilterOf}

-- `n` is a node, the type filter belongs to the compound selector, the answers are those of its nested lists for `n`, and the
-- caches belong to the tree.
pub record IsPreparedAt (forest : Forest) (n : ℕ) (prepared : PreparedCompound) (caches : Forest) : Type 0 where
  pub known : n < length forest.content
  pub filter : IfSome prepared.name (IsTypeFilterOf (read_compound prepared.compound.now))
  pub answered : AreAnswers (lists_of (map read_nested prepared.compound.now.nested.items)) forest n prepared.answers.items
  pub caches_are : caches ≡ forest
