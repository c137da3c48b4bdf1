use Rattle.std.proofs.Common.{ℕ, List, []}
use Rattle.dom_links.proofs.texts.Counting.{IsPartCounted}
use Rattle.dom_links.proofs.ops.counts.add_text.Given as goal

-- what is left of the text is still to be counted
abbrev pub invariant-loop-c : goal.invariant-loop-c
invariant-loop-c l = (rest : List ℕ) (total : ℕ) → IsPartCounted l.fn.read.count l.fn.read.gap l.text [] rest total → IsPartCounted l.read.count l.read.gap l.text l.yielded rest total
