use Rattle.std.proofs.Common.{string_bytes}
use Rattle.dom_clean.specs.Ahead.{weight}
use Rattle.dom_clean.specs.Cleaned.{cleaned_below}
use Rattle.dom_clean.specs.Policies.{policy_of}
use Rattle.dom_clean.specs.Written.{text_of}
use Rattle.dom_clean.proofs.EntryTexts.{HasWritten}
use Rattle.dom_clean.proofs.streaming.write_forest.Given as goal

abbrev pub invariant-loop-entry : goal.invariant-loop-entry
invariant-loop-entry g l = HasWritten (policy_of l.lists) l.tree (g.W.Write.contents l.fn.w) (g.W.Write.contents l.w) (string_bytes l.output.text) l.output.in_front l.ahead
    (text_of (cleaned_below (policy_of l.lists) l.tree 0))

abbrev pub decreases-loop-entry : goal.decreases-loop-entry
decreases-loop-entry g l = weight l.tree l.ahead
