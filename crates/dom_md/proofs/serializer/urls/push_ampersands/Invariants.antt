use Rattle.std.proofs.Common.{string_bytes, length}
use Rattle.dom_md.specs.Addresses.{with_ampersands}
use Rattle.dom_md.proofs.AddingLemmas.{IsAdding}
use Rattle.dom_md.proofs.serializer.urls.push_ampersands.Given as goal

abbrev pub invariant-loop-before : goal.invariant-loop-before
invariant-loop-before l = IsAdding with_ampersands (string_bytes l.text) l.rest (string_bytes l.fn.text) l.fn.address

abbrev pub decreases-loop-before : goal.decreases-loop-before
decreases-loop-before l = length l.rest
