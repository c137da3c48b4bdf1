use Rattle.std.proofs.Common.{take}
use Rattle.dom_index.specs.Tracks.{AreChainsOf}
use Rattle.dom_index.proofs.chains.prepare_all.Given as goal

abbrev pub invariant-loop-i : goal.invariant-loop-i
invariant-loop-i l = AreChainsOf (take l.i l.selectors) l.chains.items
