use Rattle.std.proofs.Common.{length}
use Rattle.std.specs.Str.{IsUtf8}
use Rattle.dom_markup.specs.Token.{mode_of}
use Rattle.dom_markup.proofs.rows.Steps.{Progress}
use Rattle.dom_markup.proofs.document.Document.read.Given as goal

abbrev pub invariant-loop-left : goal.invariant-loop-left
invariant-loop-left l = record { progress : Progress l.source l.left (mode_of l.within) l.reader; utf8 : IsUtf8 l.left }

abbrev pub decreases-loop-left : goal.decreases-loop-left
decreases-loop-left l = length l.left
