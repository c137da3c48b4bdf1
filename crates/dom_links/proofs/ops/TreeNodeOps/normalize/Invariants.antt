use Rattle.std.proofs.Common.{length}
use Rattle.dom_links.proofs.texts.Rewriting.{Rewriting}
use Rattle.dom_links.proofs.ops.TreeNodeOps.normalize.Given as goal

-- the texts from the end are done, and what was found for the others is left
abbrev pub invariant-loop-rewrite : goal.invariant-loop-rewrite
invariant-loop-rewrite l = Rewriting l.fn.nodes l.nodes l.fn.id l.found.items

abbrev pub decreases-loop-rewrite : goal.decreases-loop-rewrite
decreases-loop-rewrite l = length l.found.items
