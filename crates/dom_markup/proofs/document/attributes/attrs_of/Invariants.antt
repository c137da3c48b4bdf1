use Rattle.std.proofs.Common.{length}
use Rattle.std.specs.Str.{IsUtf8}
use Rattle.dom_markup.specs.Attributes.{IsNoted}
use Rattle.dom_markup.specs.ByteClasses.{SameEnd}
use Rattle.dom_markup.proofs.rows.AttrLemmas.{AreKept}
use Rattle.dom_markup.proofs.document.attributes.attrs_of.Given as goal

abbrev pub invariant-loop-written : goal.invariant-loop-written
invariant-loop-written l = record { kept : AreKept l.text l.rest l.attrs.items; same : SameEnd l.text l.rest; noted : IsNoted l.noted l.attrs.items; utf8 : IsUtf8 l.rest }

abbrev pub decreases-loop-written : goal.decreases-loop-written
decreases-loop-written l = length l.rest
