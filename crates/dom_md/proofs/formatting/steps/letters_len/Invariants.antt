use Rattle.std.proofs.Common.{length}
use Rattle.dom_md.proofs.SpacedLemmas.{IsRead}
use Rattle.dom_md.proofs.formatting.steps.letters_len.Given as goal

abbrev pub invariant-loop-after : goal.invariant-loop-after
invariant-loop-after l = IsRead l.text l.left

abbrev pub decreases-loop-after : goal.decreases-loop-after
decreases-loop-after l = length l.left
