use Rattle.std.proofs.Common.{length}
use Rattle.dom_select.specs.Leftward.{line}
use Rattle.dom_select.proofs.HasLemmas.{Meeting}
use Rattle.dom_select.proofs.matcher.chains.combinator_holds.Given as goal

-- what is left of the way decides
abbrev pub invariant-loop-left : goal.invariant-loop-left
invariant-loop-left l = record {
  forth : Meeting l.tree l.combinator l.first l.fn.id → Meeting l.tree l.combinator l.first l.at;
  back : Meeting l.tree l.combinator l.first l.at → Meeting l.tree l.combinator l.first l.fn.id;
}

abbrev pub decreases-loop-left : goal.decreases-loop-left
decreases-loop-left l = length (line l.tree l.combinator l.at)
