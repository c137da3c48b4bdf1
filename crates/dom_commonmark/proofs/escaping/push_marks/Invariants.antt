use Rattle.std.proofs.Common.{◌≡◌, ◌++◌, ◌≤◌, ◌-◌, length, string_bytes}
use Rattle.std.specs.Str.{IsCharBoundary}
use Rattle.dom_commonmark.specs.Escaping.{escaped, escaped_from}
use Rattle.dom_commonmark.proofs.escaping.push_marks.Given as goal

abbrev pub invariant-loop-cut : goal.invariant-loop-cut
invariant-loop-cut l = (l.from ≤ length l.text) × IsCharBoundary l.text l.from
    × (string_bytes l.out ++ escaped_from l.place l.text l.from ≡ string_bytes l.fn.out ++ escaped l.place l.text)

abbrev pub decreases-loop-cut : goal.decreases-loop-cut
decreases-loop-cut l = length l.text - l.from
