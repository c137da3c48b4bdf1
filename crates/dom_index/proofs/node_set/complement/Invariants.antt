use Rattle.std.specs.Prelude.{not}
use Rattle.dom_index.specs.NodeSets.{in_set}
use Rattle.dom_index.proofs.FillLemmas.{Filled}
use Rattle.dom_index.proofs.node_set.complement.Given as goal

abbrev pub invariant-loop-n : goal.invariant-loop-n
invariant-loop-n l = Filled (λ m. not (in_set l.fn.table.items m)) l.fn.table.items l.cells l.n
