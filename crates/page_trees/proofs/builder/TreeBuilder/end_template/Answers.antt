use Rattle.std.proofs.Common.{inl, inr, sym, subst, ◌∙◌}
use Rattle.std.proofs.lemmas.Bool.{cases_Bool}
use Rattle.page_trees.specs.Constructs.{Constructs}
use Rattle.page_trees.specs.declared.builder.TreeBuilder.{TreeBuilder}
use Rattle.page_trees.proofs.HeadRules.{template_closed, template_ignored}
use Rattle.page_trees.proofs.builder.TreeBuilder.end_template.Goals as goal

pub returns-clause-rule : goal.returns-clause-rule
returns-clause-rule c tag ends within b current stands =
    let open_is = sym (c.close_template.ensures.found b stands) in
    elim (cases_Bool c.close_template.result) [
      | inl t ↦ template_closed tag b c.close_template.new.self current ends (open_is ∙ t) (c.close_template.ensures.rule t within b stands)
      | inr f ↦ template_ignored tag b c.close_template.new.self current ends (open_is ∙ f)
          (subst (λ (s : TreeBuilder). Constructs s b) (sym (c.close_template.ensures.kept f)) stands)
    ]
