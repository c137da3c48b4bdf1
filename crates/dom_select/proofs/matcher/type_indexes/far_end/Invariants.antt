use Rattle.std.proofs.Common.{length}
use Rattle.dom_links.specs.Walk.{later}
use Rattle.dom_select.proofs.matcher.type_indexes.far_end.Given as goal

abbrev pub decreases-loop-at : goal.decreases-loop-at
decreases-loop-at l = length (later l.tree l.before l.end)
