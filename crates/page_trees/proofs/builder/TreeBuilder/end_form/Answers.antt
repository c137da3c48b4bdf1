use Rattle.std.proofs.Common.{refl, subst, sym}
use Rattle.page_trees.specs.Stands.{IsStackOf}
use Rattle.page_trees.proofs.BodyForms.{form_end, form_end_in_template}
use Rattle.page_trees.proofs.builder.TreeBuilder.end_form.Goals as goal

pub returns-then-has-clause-rule : goal.returns-then-has-clause-rule
returns-then-has-clause-rule c tag =
    form_end_in_template tag c.args.self.now c.end_in.new.self c.end_in.result c.has.result
    (λ t b. c.has.ensures.rule t refl (subst (IsStackOf t) (sym c.open.ensures.elements) b.stack) c.open.ensures.index) c.if-has.true c.end_in.ensures.next (c.end_in.ensures.rule refl)

pub returns-clause-rule : goal.returns-clause-rule
returns-clause-rule c tag =
    form_end tag c.args.self.now c.end_form.new.self c.has.result
    (λ t b. c.has.ensures.rule t refl (subst (IsStackOf t) (sym c.open.ensures.elements) b.stack) c.open.ensures.index) c.if-has.false c.end_form.ensures
