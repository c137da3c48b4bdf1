use Rattle.std.proofs.Common.{◌-◌, ◌≤◌, length}
use Rattle.dom_md.proofs.WrittenLemmas.{IsAsWrittenTo}
use Rattle.dom_md.proofs.serializer.words.same_blocks.Given as goal

abbrev pub invariant-loop-at : goal.invariant-loop-at
invariant-loop-at l = record {
  within : l.at ≤ length l.bytes;
  same : IsAsWrittenTo l.escape l.bytes l.at;
}

abbrev pub decreases-loop-at : goal.decreases-loop-at
decreases-loop-at l = length l.bytes - l.at
