use Rattle.std.proofs.Common.{refl, subst, sym, ◌∙◌}
use Rattle.page_trees.specs.Stands.{IsStackOf}
use Rattle.page_trees.proofs.builder.TreeBuilder.close_template.Goals as goal

pub returns-then-not-has-clause-found : goal.returns-then-not-has-clause-found
returns-then-not-has-clause-found c b stands =
    let open_is = c.has.ensures.rule b.tree refl (subst (IsStackOf b.tree) (sym c.open.ensures.elements) stands.tree.stack) c.open.ensures.index in
    sym (sym open_is ∙ c.if-not-has.true)

pub returns-clause-found : goal.returns-clause-found
returns-clause-found c b stands =
    let open_is = c.has.ensures.rule b.tree refl (subst (IsStackOf b.tree) (sym c.open.ensures.elements) stands.tree.stack) c.open.ensures.index in
    sym (sym open_is ∙ c.if-not-has.false)
