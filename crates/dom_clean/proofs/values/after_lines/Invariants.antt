use Rattle.std.proofs.Common.{◌≡◌, length}
use Rattle.std.specs.Str.{IsUtf8}
use Rattle.dom_clean.specs.Cleaned.{after_lines}
use Rattle.dom_clean.proofs.values.after_lines.Given as goal

-- what is left has the same text after its line feeds
abbrev pub invariant-loop-later : goal.invariant-loop-later
invariant-loop-later l = record { utf8 : IsUtf8 l.rest; same : after_lines l.rest ≡ after_lines l.text }

abbrev pub decreases-loop-later : goal.decreases-loop-later
decreases-loop-later l = length l.rest
