use Rattle.std.specs.Prelude.{◌&&◌, ◌||◌, ◌==◌}
use Rattle.dom_index.specs.TypeBytes.{byte_at}
use Rattle.dom_index.specs.NodeSets.{in_set}
use Rattle.dom_index.proofs.FillLemmas.{Filled}
use Rattle.dom_index.proofs.type_filter.intersect_type.Given as goal

abbrev pub invariant-loop-n : goal.invariant-loop-n
invariant-loop-n l = Filled (λ m. in_set l.fn.table.items m && ((byte_at l.bytes m == l.number) || (byte_at l.bytes m == 254))) l.fn.table.items l.cells l.n
