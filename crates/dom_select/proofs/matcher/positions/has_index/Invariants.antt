use Rattle.dom_links.specs.Indexes.{counts}
use Rattle.dom_select.proofs.types.PositionLemmas.{LeftDecides}
use Rattle.dom_select.proofs.matcher.positions.has_index.Given as goal

-- how many siblings that count are left decides
abbrev pub invariant-loop : goal.invariant-loop
invariant-loop l = LeftDecides (counts l.kind l.tree l.fn.id) l.tree l.from_first l.fn.id l.index l.next l.left
