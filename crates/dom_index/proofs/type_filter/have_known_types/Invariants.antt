use Rattle.std.proofs.Common.{◌≡◌, false}
use Rattle.dom_index.specs.TypeBytes.{HaveKnownTypes}
use Rattle.dom_index.proofs.type_filter.have_known_types.Given as goal

abbrev pub invariant-loop-n : goal.invariant-loop-n
invariant-loop-n l = l.unknown ≡ false → HaveKnownTypes l.bytes l.table l.n
