use Rattle.std.specs.Prelude.{not, ◌==◌}
use Rattle.dom_index.specs.TypeBytes.{byte_at}
use Rattle.dom_index.proofs.FillLemmas.{Filled}
use Rattle.dom_index.proofs.node_set.mark_elements.Given as goal

abbrev pub invariant-loop-n : goal.invariant-loop-n
invariant-loop-n l = Filled (λ m. not (byte_at l.bytes m == 255)) l.fn.table.items l.cells l.n
