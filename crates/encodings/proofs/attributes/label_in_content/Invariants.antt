use Rattle.std.proofs.Common.{◌≡◌, drop}
use Rattle.encodings.specs.Attributes.{label_in}
use Rattle.encodings.proofs.attributes.label_in_content.Given as goal

-- what is left decides
abbrev pub invariant-loop-i : goal.invariant-loop-i
invariant-loop-i l = label_in (drop l.i l.content) ≡ label_in l.content
