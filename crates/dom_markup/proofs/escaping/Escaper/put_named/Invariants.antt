use Rattle.std.proofs.Common.{length}
use Rattle.dom_markup.proofs.html.CutLemmas.{HasPut}
use Rattle.dom_markup.proofs.escaping.Escaper.put_named.Given as goal

abbrev pub invariant-loop-named : goal.invariant-loop-named
invariant-loop-named g l = HasPut g.C.Cut.escaped (g.P.PutText.written l.fn.w) (g.P.PutText.written l.w) l.fn.text l.rest

abbrev pub decreases-loop-named : goal.decreases-loop-named
decreases-loop-named g l = length l.rest
