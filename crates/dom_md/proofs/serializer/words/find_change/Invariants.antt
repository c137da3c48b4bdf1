use Rattle.dom_md.proofs.WrittenLemmas.{IsAsWrittenTo}
use Rattle.dom_md.proofs.serializer.words.find_change.Given as goal

abbrev pub invariant-loop-at : goal.invariant-loop-at
invariant-loop-at l = IsAsWrittenTo l.escape l.bytes l.at
