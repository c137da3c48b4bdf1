use Rattle.std.proofs.Common.{◌≡◌, length}
use Rattle.dom_commonmark.specs.Inline.{begins_mail}
use Rattle.dom_commonmark.proofs.escaping.begins_mail.Given as goal

abbrev pub invariant-loop-first : goal.invariant-loop-first
invariant-loop-first l = begins_mail l.at_end l.rest ≡ begins_mail l.at_end l.after

abbrev pub decreases-loop-first : goal.decreases-loop-first
decreases-loop-first l = length l.rest
