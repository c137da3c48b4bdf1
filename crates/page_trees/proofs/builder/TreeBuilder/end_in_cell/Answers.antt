use Rattle.std.proofs.Common.{◌∙◌, false, refl, sym}
use Rattle.standard_trees.specs.RuleWords.{InCell}
use Rattle.page_trees.specs.TableSteps.{cell_names, closing_cell}
use Rattle.page_trees.proofs.TableRows.{cell_end, cell_known, closing_own_cell, dropped_in_cell, end_in_cell, leaving_cell}
use Rattle.page_trees.proofs.TableTags.{cell_is_known, content_done, content_left, ending_is_known, own_cell_closed, own_in_table, tag_closes, tag_ignored, tag_leaves_by}
use Rattle.page_trees.proofs.builder.TreeBuilder.end_in_cell.Goals as goal

pub returns-then-is_cell : goal.returns-then-is_cell
returns-then-is_cell c = record {
  rule = λ ends within b current html covered stands. tag_closes InCell cell_known c.args.name c.args.tag.now false b _ closing_own_cell c.end_cell.result _ current ends refl (cell_end b c.args.name (sym c.is_cell.ensures ∙ c.if-is_cell.true))
      (c.end_cell.ensures.found (cell_is_known c.args.name (sym c.is_cell.ensures ∙ c.if-is_cell.true)) b.tree stands.tree ∙ own_in_table c.args.name c.args.tag.now b (cell_is_known c.args.name (sym c.is_cell.ensures ∙ c.if-is_cell.true)) current)
      (own_cell_closed c.args.name c.args.tag.now b _ c.end_cell.result (cell_is_known c.args.name (sym c.is_cell.ensures ∙ c.if-is_cell.true)) current (c.end_cell.ensures.rule (sym c.is_cell.ensures ∙ c.if-is_cell.true) within b stands));
}

pub returns-then-is_dropped_end : goal.returns-then-is_dropped_end
returns-then-is_dropped_end c = record {
  rule = λ ends within b current html covered stands. tag_ignored InCell cell_known c.args.name c.args.tag.now false b _ current ends (dropped_in_cell b c.args.name (sym c.is_dropped_end.ensures ∙ c.if-is_dropped_end.true)) stands;
}

pub returns-then-ends_cell : goal.returns-then-ends_cell
returns-then-ends_cell c = record {
  rule = λ ends within b current html covered stands. tag_leaves_by InCell cell_known c.args.name c.args.tag.now false b _ (closing_cell cell_names) c.leave_cell_in.result _ current ends refl (leaving_cell b c.args.name (sym c.ends_cell.ensures ∙ c.if-ends_cell.true))
      (c.leave_cell_in.ensures.found (ending_is_known c.args.name (sym c.ends_cell.ensures ∙ c.if-ends_cell.true)) b.tree stands.tree ∙ own_in_table c.args.name c.args.tag.now b (ending_is_known c.args.name (sym c.ends_cell.ensures ∙ c.if-ends_cell.true)) current)
      (c.leave_cell_in.ensures.rule (ending_is_known c.args.name (sym c.ends_cell.ensures ∙ c.if-ends_cell.true)) within b stands);
}

pub returns : goal.returns
returns c = record {
  rule = λ ends within b current html covered stands. content_done InCell cell_known c.args.name c.args.tag.now false b _ _ _ current ends
      (end_in_cell b c.args.name (sym c.is_cell.ensures ∙ c.if-is_cell.false) (sym c.is_dropped_end.ensures ∙ c.if-is_dropped_end.false) (sym c.ends_cell.ensures ∙ c.if-ends_cell.false))
      (content_left c.args.name b (sym c.is_cell.ensures ∙ c.if-is_cell.false) (sym c.is_dropped_end.ensures ∙ c.if-is_dropped_end.false)
      (sym c.ends_cell.ensures ∙ c.if-ends_cell.false) covered) within html stands c.body_tag.ensures.rule;
}
