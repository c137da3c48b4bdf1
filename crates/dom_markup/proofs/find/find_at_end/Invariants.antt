use Rattle.memchr.specs.Find.{Nowhere, Passes, is_byte}
use Rattle.dom_markup.proofs.find.find_at_end.Given as goal

abbrev pub invariant-loop-index : goal.invariant-loop-index
invariant-loop-index l = Nowhere (Passes (is_byte l.byte) l.bytes) 0 l.index
