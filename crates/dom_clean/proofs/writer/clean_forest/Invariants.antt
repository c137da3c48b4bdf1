use Rattle.std.proofs.Common.{◌≡◌, ◌++◌, string_bytes}
use Rattle.dom_clean.specs.Ahead.{AreKnown, ahead_text, seen, weight}
use Rattle.dom_clean.specs.Cleaned.{cleaned_below}
use Rattle.dom_clean.specs.Policies.{policy_of}
use Rattle.dom_clean.specs.Written.{text_of}
use Rattle.dom_clean.proofs.writer.clean_forest.Given as goal

abbrev pub invariant-loop-entry : goal.invariant-loop-entry
invariant-loop-entry l = record {
  known : AreKnown l.tree l.ahead;
  whole : string_bytes l.output.text ++ seen l.output.in_front (ahead_text (policy_of l.lists) l.tree l.ahead) ≡ text_of (cleaned_below (policy_of l.lists) l.tree l.id);
}

abbrev pub decreases-loop-entry : goal.decreases-loop-entry
decreases-loop-entry l = weight l.tree l.ahead
