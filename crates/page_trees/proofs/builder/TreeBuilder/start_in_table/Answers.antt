use Rattle.std.proofs.Common.{◌∙◌, rules, sym, subst}
use denote.Enum.Bare.{same_false, same_true}
use Rattle.page_trees.specs.contracts.name.Name.{the_type}
use Rattle.page_trees.specs.declared.name.Name.{Name}
use Rattle.page_trees.specs.Constructs.{IsCurrentTag}
use Rattle.page_trees.proofs.TableTags.{left_over, no_form}
use Rattle.page_trees.proofs.builder.TreeBuilder.start_in_table.Goals as goal

pub returns-then-is_table_part : goal.returns-then-is_table_part
returns-then-is_table_part c = record {
  rule = λ starts within b current html covered stands. c.start_table_part.ensures.rule (sym c.is_table_part.ensures ∙ c.if-is_table_part.true) starts within b current stands;
}

pub returns-then-eq : goal.returns-then-eq
returns-then-eq c = record {
  rule = λ starts within b current html covered stands. c.start_table_form.ensures.rule starts within b (subst (λ (n : Name). IsCurrentTag n c.args.tag.now b) (same_true the_type (search rules) c.args.name Name.Form (sym c.eq.ensures ∙ c.if-eq.true)) current) stands;
}

pub returns : goal.returns
returns c = record {
  rule = λ starts within b current html covered stands. c.start_other_in_table.ensures.rule starts within b current html
      (left_over _ _ (no_form c.args.name (same_false the_type c.args.name Name.Form (sym c.eq.ensures ∙ c.if-eq.false)))
      (left_over _ _ (sym c.is_table_part.ensures ∙ c.if-is_table_part.false) covered)) stands;
}
