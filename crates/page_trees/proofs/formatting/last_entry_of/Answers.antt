use Rattle.std.proofs.Common.{sym, ◌∙◌}
use Rattle.page_trees.specs.Formatting.{is_of}
use Rattle.page_trees.proofs.FormattingLemmas.{place_before, place_here}
use Rattle.page_trees.proofs.formatting.last_entry_of.Goals as goal

pub returns-then-is_of : goal.returns-then-is_of
returns-then-is_of c = place_here (is_of c.args.id) _ _ _ c.in-Some.ensures.cases.0 (sym c.is_of.ensures ∙ c.if-is_of.true) ∙ c.loop-entry.invariant

pub loop-entry-preserved : goal.loop-entry-preserved
loop-entry-preserved c = place_before (is_of c.args.id) _ _ _ c.in-Some.ensures.cases.0 (sym c.is_of.ensures ∙ c.if-is_of.false) ∙ c.loop-entry.invariant
