use Rattle.std.proofs.Common.{◌∙◌, true, refl, sym}
use Rattle.standard_trees.specs.RuleWords.{InCell}
use Rattle.page_trees.specs.TableSteps.{cell_names, closing_cell}
use Rattle.page_trees.proofs.TableRows.{cell_known, part_in_cell, start_in_cell}
use Rattle.page_trees.proofs.TableTags.{content_done, left_over, tag_leaves_by}
use Rattle.page_trees.proofs.builder.TreeBuilder.start_in_cell.Goals as goal

pub returns-then-is_table_part : goal.returns-then-is_table_part
returns-then-is_table_part c = record {
  rule = λ starts within b current html covered stands. tag_leaves_by InCell cell_known c.args.name c.args.tag.now true b _ (closing_cell cell_names) c.leave_cell.result _ current starts refl
      (part_in_cell b c.args.name (sym c.is_table_part.ensures ∙ c.if-is_table_part.true)) (c.leave_cell.ensures.found b.tree stands.tree) (c.leave_cell.ensures.rule within b stands);
}

pub returns : goal.returns
returns c = record {
  rule = λ starts within b current html covered stands. content_done InCell cell_known c.args.name c.args.tag.now true b _ _ _ current starts
      (start_in_cell b c.args.name (sym c.is_table_part.ensures ∙ c.if-is_table_part.false))
      (left_over _ _ (sym c.is_table_part.ensures ∙ c.if-is_table_part.false) covered) within html stands c.body_tag.ensures.rule;
}
