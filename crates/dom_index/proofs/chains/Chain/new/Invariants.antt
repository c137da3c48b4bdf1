use Rattle.std.proofs.Common.{◌≡◌, ◌≤◌, ◌+◌, ℕ, Some, drop, length, map}
use Rattle.std.specs.Prelude.{slice_get}
use Rattle.dom_selectors.specs.ValuesAsTrees.{read_compound, read_step}
use Rattle.dom_index.specs.declared.node_tests.NodeTest.{NodeTest}
use Rattle.dom_selectors.specs.ListsAsTrees.{steps_of}
use Rattle.dom_index.specs.CompoundCounts.{compound_count, steps_count}
use Rattle.dom_index.specs.FlagRows.{compound_at}
use Rattle.dom_index.specs.NodeTests.{IsReady}
use Rattle.dom_index.proofs.chains.Chain.new.Given as goal

-- so many compounds have tests
abbrev pub invariant-loop-i : goal.invariant-loop-i
invariant-loop-i l = record {
  count : length l.tests.items ≡ l.i + 1;
  tests : (j : ℕ) (test : NodeTest) → slice_get l.tests.items j ≡ Some test → IsReady test × (compound_at (read_compound l.first) (map read_step l.steps) j ≡ Some (read_compound test.compound.now));
}
