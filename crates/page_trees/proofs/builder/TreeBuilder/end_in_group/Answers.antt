use Rattle.std.proofs.Common.{◌∙◌, false, refl, rules, sym, subst}
use denote.Enum.Bare.{same_false, same_true}
use Rattle.standard_trees.specs.RuleWords.{InColumnGroup, InHead}
use Rattle.page_trees.specs.contracts.name.Name.{the_type}
use Rattle.page_trees.specs.Constructs.{IsCurrentTag}
use Rattle.page_trees.specs.TableSteps.{closing_group, is_again}
use Rattle.page_trees.specs.declared.name.Name.{Name}
use Rattle.page_trees.proofs.TableRows.{col_end, end_in_group, group_end, group_known, template_end_in_group}
use Rattle.page_trees.proofs.TableTags.{row_at, tag_closes, tag_ignored, tag_leaves_by, tag_uses}
use Rattle.page_trees.proofs.builder.TreeBuilder.end_in_group.Goals as goal

pub returns-then-eq : goal.returns-then-eq
returns-then-eq c = record {
  rule = λ tag ends within b current html stands. tag_closes InColumnGroup group_known c.args.name tag false b _ closing_group (is_again c.leave_column_group.result) _ current ends refl
      (row_at InColumnGroup b false c.args.name Name.Colgroup (same_true the_type (search rules) c.args.name Name.Colgroup (sym c.eq.ensures ∙ c.if-eq.true)) ∙ group_end b) (c.leave_column_group.ensures.found b.tree stands.tree)
      (c.leave_column_group.ensures.rule within b stands);
}

pub returns-then-eq-2 : goal.returns-then-eq-2
returns-then-eq-2 c = record {
  rule = λ tag ends within b current html stands. tag_ignored InColumnGroup group_known c.args.name tag false b _ current ends (row_at InColumnGroup b false c.args.name Name.Col (same_true the_type (search rules) c.args.name Name.Col
      (sym c.eq-2.ensures ∙ c.if-eq-2.true)) ∙ col_end b) stands;
}

pub returns-then-eq-3 : goal.returns-then-eq-3
returns-then-eq-3 c = record {
  rule = λ tag ends within b current html stands. tag_uses InColumnGroup InHead group_known c.args.name tag false b _ _ current ends
      (row_at InColumnGroup b false c.args.name Name.Template (same_true the_type (search rules) c.args.name Name.Template (sym c.eq-3.ensures ∙ c.if-eq-3.true)) ∙ template_end_in_group b)
      (c.end_template.ensures.rule tag ends within b
      (subst (λ (n : Name). IsCurrentTag n tag b) (same_true the_type (search rules) c.args.name Name.Template (sym c.eq-3.ensures ∙ c.if-eq-3.true)) current) stands);
}

pub returns : goal.returns
returns c = record {
  rule = λ tag ends within b current html stands. tag_leaves_by InColumnGroup group_known c.args.name tag false b _ closing_group c.leave_column_group-2.result _ current ends refl
      (end_in_group b c.args.name (same_false the_type c.args.name Name.Colgroup (sym c.eq.ensures ∙ c.if-eq.false)) (same_false the_type c.args.name Name.Col (sym c.eq-2.ensures ∙ c.if-eq-2.false)) (same_false the_type c.args.name Name.Template
      (sym c.eq-3.ensures ∙ c.if-eq-3.false)))
      (c.leave_column_group-2.ensures.found b.tree stands.tree) (c.leave_column_group-2.ensures.rule within b stands);
}
