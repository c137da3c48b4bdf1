use Rattle.std.proofs.Common.{sym, subst, ◌∙◌}
use Rattle.page_trees.specs.Constructs.{Constructs}
use Rattle.page_trees.specs.declared.builder.TreeBuilder.{TreeBuilder}
use Rattle.page_trees.proofs.PageEnds.{template_ends, template_stops}
use Rattle.page_trees.proofs.builder.TreeBuilder.end_in_template.Goals as goal

pub returns-then-close_template-clause-rule : goal.returns-then-close_template-clause-rule
returns-then-close_template-clause-rule c within b token stands =
    template_ends b c.close_template.new.self token (sym (c.close_template.ensures.found b stands) ∙ c.if-close_template.true)
    (c.close_template.ensures.rule c.if-close_template.true within b stands)

pub returns-clause-rule : goal.returns-clause-rule
returns-clause-rule c within b token stands =
    template_stops b c.close_template.new.self token (sym (c.close_template.ensures.found b stands) ∙ c.if-close_template.false)
    (subst (λ (s : TreeBuilder). Constructs s b) (sym (c.close_template.ensures.kept c.if-close_template.false)) stands)
