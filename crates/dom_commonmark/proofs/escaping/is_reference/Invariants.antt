use Rattle.std.proofs.Common.{◌≡◌, length}
use Rattle.dom_commonmark.specs.Inline.{is_reference}
use Rattle.dom_commonmark.proofs.escaping.is_reference.Given as goal

abbrev pub invariant-loop-first : goal.invariant-loop-first
invariant-loop-first l = is_reference l.rest ≡ is_reference l.after

abbrev pub decreases-loop-first : goal.decreases-loop-first
decreases-loop-first l = length l.rest
