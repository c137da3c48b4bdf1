use Rattle.std.proofs.Common.{◌≡◌, ◌∙◌, Bool, true, [], ◌∷◌, refl, sym, subst}
use Rattle.page_trees.specs.declared.builder.Next.{Next}
use Rattle.page_trees.specs.Constructs.{Outcome}
use Rattle.standard_trees.specs.RuleWords.{InCell, InRow, InTable, InsertElement, ListMarker, SwitchTo}
use Rattle.page_trees.specs.TableSteps.{clearing_to, closing_row, covers_table}
use Rattle.page_trees.specs.declared.sets.TableContext.{TableContext}
use Rattle.page_trees.proofs.TableRows.{cell_start, part_in_row, row_known, start_in_row}
use Rattle.page_trees.proofs.TableTags.{left_over, tag_does, tag_leaves_by, tag_uses}
use Rattle.page_trees.proofs.builder.TreeBuilder.start_in_row.Goals as goal

pub returns-then-is_cell : goal.returns-then-is_cell
returns-then-is_cell c = record {
  rule = λ starts within b current html covered stands. subst (λ (n : Next). Outcome InRow b c.start_cell.new.self n) (sym c.start_cell.ensures.next) (tag_does InRow row_known c.args.name c.args.tag.now true b _
      (clearing_to TableContext.Row ∷ InsertElement ∷ SwitchTo InCell ∷ ListMarker ∷ []) Next.Done current starts refl (cell_start b c.args.name (sym c.is_cell.ensures ∙ c.if-is_cell.true)) (c.start_cell.ensures.rule starts within b current stands));
}

pub returns-then-is_table_part : goal.returns-then-is_table_part
returns-then-is_table_part c = record {
  rule = λ starts within b current html covered stands. tag_leaves_by InRow row_known c.args.name c.args.tag.now true b _ closing_row c.leave_row.result _ current starts refl
      (part_in_row b c.args.name (sym c.is_cell.ensures ∙ c.if-is_cell.false) (sym c.is_table_part.ensures ∙ c.if-is_table_part.true)) (c.leave_row.ensures.found b.tree stands.tree) (c.leave_row.ensures.rule within b stands);
}

pub returns : goal.returns
returns c = record {
  rule = λ starts within b current html covered stands. tag_uses InRow InTable row_known c.args.name c.args.tag.now true b _ _ current starts (start_in_row b c.args.name (sym c.is_table_part.ensures ∙ c.if-is_table_part.false))
      (c.table_tag.ensures.rule within b current html (subst (λ (s : Bool). covers_table s c.args.name b ≡ true) (sym starts) (left_over _ _ (sym c.is_table_part.ensures ∙ c.if-is_table_part.false) covered)) stands);
}
