use Rattle.std.proofs.Common.{◌∙◌, false, refl, rules, sym, subst}
use denote.Enum.Bare.{same_false, same_true}
use Rattle.page_trees.specs.contracts.name.Name.{the_type}
use Rattle.page_trees.specs.declared.name.Name.{Name}
use Rattle.standard_trees.specs.RuleWords.{InHead, InTable}
use Rattle.page_trees.specs.Constructs.{IsCurrentTag}
use Rattle.page_trees.specs.TableSteps.{closing_table}
use Rattle.page_trees.proofs.TableRows.{ignored_in_table, table_end, table_known, template_end_in_table}
use Rattle.page_trees.proofs.TableTags.{left_over, no_table, no_template, row_at, tag_closes, tag_ignored, tag_uses}
use Rattle.page_trees.proofs.builder.TreeBuilder.end_in_table.Goals as goal

pub returns-then-is_ignored_end : goal.returns-then-is_ignored_end
returns-then-is_ignored_end c = record {
  rule = λ ends within b current html covered stands. tag_ignored InTable table_known c.args.name c.args.tag.now false b _ current ends (ignored_in_table b c.args.name (sym c.is_ignored_end.ensures ∙ c.if-is_ignored_end.true)) stands;
}

pub returns-then-eq : goal.returns-then-eq
returns-then-eq c = record {
  rule = λ ends within b current html covered stands. tag_closes InTable table_known c.args.name c.args.tag.now false b _ closing_table c.end_table.result _ current ends refl
      (row_at InTable b false c.args.name Name.Table (same_true the_type (search rules) c.args.name Name.Table (sym c.eq.ensures ∙ c.if-eq.true)) ∙ table_end b)
      (c.end_table.ensures.found b.tree stands.tree) (c.end_table.ensures.rule within b stands);
}

pub returns-then-eq-2 : goal.returns-then-eq-2
returns-then-eq-2 c = record {
  rule = λ ends within b current html covered stands. tag_uses InTable InHead table_known c.args.name c.args.tag.now false b _ _ current ends
      (row_at InTable b false c.args.name Name.Template (same_true the_type (search rules) c.args.name Name.Template (sym c.eq-2.ensures ∙ c.if-eq-2.true)) ∙ template_end_in_table b)
      (c.end_template.ensures.rule c.args.tag.now ends within b
      (subst (λ (n : Name). IsCurrentTag n c.args.tag.now b) (same_true the_type (search rules) c.args.name Name.Template (sym c.eq-2.ensures ∙ c.if-eq-2.true)) current) stands);
}

pub returns : goal.returns
returns c = record {
  rule = λ ends within b current html covered stands. c.fostered_tag.ensures.rule within b current html
      (left_over _ _ (no_template c.args.name (same_false the_type c.args.name Name.Template (sym c.eq-2.ensures ∙ c.if-eq-2.false)))
      (left_over _ _ (no_table c.args.name (same_false the_type c.args.name Name.Table (sym c.eq.ensures ∙ c.if-eq.false)))
      (left_over _ _ (sym c.is_ignored_end.ensures ∙ c.if-is_ignored_end.false) covered))) stands;
}
