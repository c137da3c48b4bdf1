use Rattle.std.proofs.Common.{length}
use Rattle.std.specs.Str.{IsUtf8}
use Rattle.dom_markup.specs.ByteClasses.{SameEnd}
use Rattle.dom_markup.proofs.document.scan.attributes_end.Given as goal

abbrev pub invariant-loop-after : goal.invariant-loop-after
invariant-loop-after l = record { same : SameEnd l.text l.rest; utf8 : IsUtf8 l.rest }

abbrev pub decreases-loop-after : goal.decreases-loop-after
decreases-loop-after l = length l.rest
