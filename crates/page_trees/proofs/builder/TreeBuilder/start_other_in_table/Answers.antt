use Rattle.std.proofs.Common.{◌∙◌, true, refl, rules, sym, subst}
use denote.Enum.Bare.{same_false, same_true}
use Rattle.standard_trees.specs.RuleWords.{InHead, InTable}
use Rattle.page_trees.specs.contracts.name.Name.{the_type}
use Rattle.page_trees.specs.Constructs.{Outcome}
use Rattle.page_trees.specs.TableSteps.{closing_table}
use Rattle.page_trees.specs.declared.builder.Next.{Next}
use Rattle.page_trees.specs.declared.name.Name.{Name}
use Rattle.page_trees.proofs.TableRows.{hidden_in_table, table_known, table_start}
use Rattle.page_trees.proofs.TableTags.{hidden_is_metadata, left_over, no_hidden_input, no_table, row_at, tag_leaves, tag_uses}
use Rattle.page_trees.proofs.builder.TreeBuilder.start_other_in_table.Goals as goal

pub returns-then-eq : goal.returns-then-eq
returns-then-eq c = record {
  rule = λ starts within b current html covered stands. subst (λ (n : Next). Outcome InTable b c.end_table.new.self n) (sym c.next_if.ensures) (tag_leaves InTable table_known c.args.name c.args.tag.now true b _ closing_table c.end_table.result _ current starts refl
      (row_at InTable b true c.args.name Name.Table (same_true the_type (search rules) c.args.name Name.Table (sym c.eq.ensures ∙ c.if-eq.true)) ∙ table_start b)
      (c.end_table.ensures.found b.tree stands.tree) (c.end_table.ensures.rule within b stands));
}

pub returns-then-is_hidden_content : goal.returns-then-is_hidden_content
returns-then-is_hidden_content c = record {
  rule = λ starts within b current html covered stands. tag_uses InTable InHead table_known c.args.name c.args.tag.now true b _ _ current starts
      (hidden_in_table b c.args.name (sym c.is_hidden_content.ensures ∙ c.if-is_hidden_content.true))
      (c.head_element.ensures.rule (hidden_is_metadata c.args.name (sym c.is_hidden_content.ensures ∙ c.if-is_hidden_content.true)) starts within b current stands);
}

pub returns-then-eq-2 : goal.returns-then-eq-2
returns-then-eq-2 c = record {
  rule = λ starts within b current html covered stands. c.start_table_input.ensures.rule (same_true the_type (search rules) c.args.name Name.Input (sym c.eq-2.ensures ∙ c.if-eq-2.true)) starts within b current html
      (left_over _ _ (sym c.is_hidden_content.ensures ∙ c.if-is_hidden_content.false)
      (left_over _ _ (no_table c.args.name (same_false the_type c.args.name Name.Table (sym c.eq.ensures ∙ c.if-eq.false))) covered)) stands;
}

pub returns : goal.returns
returns c = record {
  rule = λ starts within b current html covered stands. c.fostered_tag.ensures.rule within b current html
      (left_over _ _ (no_hidden_input c.args.name b (same_false the_type c.args.name Name.Input (sym c.eq-2.ensures ∙ c.if-eq-2.false)))
      (left_over _ _ (sym c.is_hidden_content.ensures ∙ c.if-is_hidden_content.false)
      (left_over _ _ (no_table c.args.name (same_false the_type c.args.name Name.Table (sym c.eq.ensures ∙ c.if-eq.false))) covered))) stands;
}
