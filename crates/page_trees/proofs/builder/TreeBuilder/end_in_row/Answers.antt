use Rattle.std.proofs.Common.{◌≡◌, ◌∙◌, Bool, true, false, refl, rules, sym, subst}
use denote.Enum.Bare.{same_false, same_true}
use Rattle.page_trees.specs.contracts.name.Name.{the_type}
use Rattle.page_trees.specs.declared.name.Name.{Name}
use Rattle.standard_trees.specs.RuleWords.{InRow, InTable}
use Rattle.page_trees.specs.TableSteps.{closing_row, covers_table}
use Rattle.page_trees.proofs.TableRows.{end_in_row, ignored_in_row, row_end, row_known, table_end_in_row}
use Rattle.page_trees.proofs.TableTags.{left_over, no_table, row_at, tag_closes, tag_ignored, tag_leaves_by, tag_uses}
use Rattle.page_trees.specs.TableSteps.{is_again}
use Rattle.page_trees.proofs.builder.TreeBuilder.end_in_row.Goals as goal

pub returns-then-eq : goal.returns-then-eq
returns-then-eq c = record {
  rule = λ ends within b current html covered stands. tag_closes InRow row_known c.args.name c.args.tag.now false b _ closing_row (is_again c.leave_row.result) _ current ends refl
      (row_at InRow b false c.args.name Name.Tr (same_true the_type (search rules) c.args.name Name.Tr (sym c.eq.ensures ∙ c.if-eq.true)) ∙ row_end b) (c.leave_row.ensures.found b.tree stands.tree) (c.leave_row.ensures.rule within b stands);
}

pub returns-then-eq-2 : goal.returns-then-eq-2
returns-then-eq-2 c = record {
  rule = λ ends within b current html covered stands. tag_leaves_by InRow row_known c.args.name c.args.tag.now false b _ closing_row c.leave_row-then-eq-2.result _ current ends refl
      (row_at InRow b false c.args.name Name.Table (same_true the_type (search rules) c.args.name Name.Table (sym c.eq-2.ensures ∙ c.if-eq-2.true)) ∙ table_end_in_row b) (c.leave_row-then-eq-2.ensures.found b.tree stands.tree) (c.leave_row-then-eq-2.ensures.rule within b stands);
}

pub returns-then-is_section : goal.returns-then-is_section
returns-then-is_section c = record {
  rule = λ ends within b current html covered stands. c.leave_row_in.ensures.rule c.args.tag.now (sym c.is_section.ensures ∙ c.if-is_section.true) ends within b current stands;
}

pub returns-then-is_ignored_end : goal.returns-then-is_ignored_end
returns-then-is_ignored_end c = record {
  rule = λ ends within b current html covered stands. tag_ignored InRow row_known c.args.name c.args.tag.now false b _ current ends (ignored_in_row b c.args.name (same_false the_type c.args.name Name.Tr (sym c.eq.ensures ∙ c.if-eq.false))
      (sym c.is_section.ensures ∙ c.if-is_section.false) (sym c.is_ignored_end.ensures ∙ c.if-is_ignored_end.true)) stands;
}

pub returns : goal.returns
returns c = record {
  rule = λ ends within b current html covered stands. tag_uses InRow InTable row_known c.args.name c.args.tag.now false b _ _ current ends (end_in_row b c.args.name (same_false the_type c.args.name Name.Table (sym c.eq-2.ensures ∙ c.if-eq-2.false))
      (sym c.is_ignored_end.ensures ∙ c.if-is_ignored_end.false))
      (c.table_tag.ensures.rule within b current html (subst (λ (s : Bool). covers_table s c.args.name b ≡ true) (sym ends) (left_over _ _ (no_table c.args.name (same_false the_type c.args.name Name.Table (sym c.eq-2.ensures ∙ c.if-eq-2.false))) (left_over _ _
      (sym c.is_ignored_end.ensures ∙ c.if-is_ignored_end.false) covered))) stands);
}
