use Rattle.std.specs.Prelude.{◌||◌}
use Rattle.dom_index.specs.NodeSets.{in_set}
use Rattle.dom_index.proofs.FillLemmas.{Filled}
use Rattle.dom_index.proofs.node_set.unite.Given as goal

abbrev pub invariant-loop-n : goal.invariant-loop-n
invariant-loop-n l = Filled (λ m. in_set l.fn.table.items m || in_set l.other m) l.fn.table.items l.cells l.n
