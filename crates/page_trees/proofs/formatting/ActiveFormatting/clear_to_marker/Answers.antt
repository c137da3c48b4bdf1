use Rattle.std.proofs.Common.{sym, ◌∙◌}
use Rattle.page_trees.specs.Popping.{is_a_marker}
use Rattle.page_trees.proofs.PoppingLemmas.{ended_by, passed_by}
use Rattle.page_trees.proofs.formatting.ActiveFormatting.clear_to_marker.Goals as goal

pub returns-then-is_marker-clause-entries : goal.returns-then-is_marker-clause-entries
returns-then-is_marker-clause-entries c = ended_by is_a_marker _ _ _ c.in-Some.ensures.items (sym c.is_marker.ensures ∙ c.if-is_marker.true) ∙ c.loop-entry.invariant.left

pub loop-entry-preserved : goal.loop-entry-preserved
loop-entry-preserved c = record {
  left = passed_by is_a_marker _ _ _ c.in-Some.ensures.items (sym c.is_marker.ensures ∙ c.if-is_marker.false) ∙ c.loop-entry.invariant.left;
  likes = λ forest are. c.take.ensures.likes forest (c.loop-entry.invariant.likes forest are);
}
