use Rattle.std.proofs.Common.{List, subst, sym, ℕ, ◌∙◌}
use Rattle.page_trees.specs.ForeignSteps.{EndsForeign, IsTagNamed}
use Rattle.page_trees.proofs.ForeignEndTags.{end_closed, end_goes_on, end_ignored, end_left}
use Rattle.page_trees.proofs.builder.TreeBuilder.foreign_end.Goals as goal

pub returns-then-is_foreign_break : goal.returns-then-is_foreign_break
returns-then-is_foreign_break c = record {
  rule = end_left c.args.name c.args.tag.now c.args.self.now _ _ (sym c.is_foreign_break.ensures ∙ c.if-is_foreign_break.true) c.leave_foreign.ensures.rule;
}

pub returns-in-At : goal.returns-in-At
returns-in-At c = record {
  rule = end_closed c.args.name c.args.tag.now c.args.self.now c.truncate.new.self _ (sym c.is_foreign_break.ensures ∙ c.if-is_foreign_break.false)
      (λ text is. subst (EndsForeign text c.args.self.now.tree) c.in-At.is (c.foreign_end.ensures text (subst (λ (bytes : List ℕ). IsTagNamed c.args.name bytes text) (sym c.as_str.ensures.value) is))) c.truncate.ensures;
}

pub returns-in-Html : goal.returns-in-Html
returns-in-Html c = record {
  rule = end_goes_on c.args.name c.args.tag.now c.args.self.now _ _ (sym c.is_foreign_break.ensures ∙ c.if-is_foreign_break.false)
      (λ text is. subst (EndsForeign text c.args.self.now.tree) c.in-Html.is (c.foreign_end.ensures text (subst (λ (bytes : List ℕ). IsTagNamed c.args.name bytes text) (sym c.as_str.ensures.value) is))) c.html_tag.ensures.rule;
}

pub returns-in-Nowhere : goal.returns-in-Nowhere
returns-in-Nowhere c = record {
  rule = end_ignored c.args.name c.args.tag.now c.args.self.now (sym c.is_foreign_break.ensures ∙ c.if-is_foreign_break.false)
      (λ text is. subst (EndsForeign text c.args.self.now.tree) c.in-Nowhere.is (c.foreign_end.ensures text (subst (λ (bytes : List ℕ). IsTagNamed c.args.name bytes text) (sym c.as_str.ensures.value) is)));
}
