use Rattle.std.proofs.Common.{false}
use Rattle.dom_md.proofs.WrittenLemmas.{IsAsWrittenTo}
use Rattle.dom_md.proofs.serializer.words.word_len.Given as goal

abbrev pub invariant-loop-at : goal.invariant-loop-at
invariant-loop-at l = IsAsWrittenTo false l.bytes l.at
