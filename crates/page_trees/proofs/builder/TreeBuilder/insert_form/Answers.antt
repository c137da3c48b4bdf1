use Rattle.std.proofs.Common.{refl, subst, sym}
use Rattle.standard_trees.specs.Building.{perform}
use Rattle.standard_trees.specs.RuleWords.{InsertElement}
use Rattle.page_trees.specs.Stands.{IsStackOf}
use Rattle.page_trees.proofs.BodyForms.{form_set, form_unset}
use Rattle.page_trees.proofs.builder.TreeBuilder.insert_form.Goals as goal

pub returns-then-not-has-clause-rule : goal.returns-then-not-has-clause-rule
returns-then-not-has-clause-rule c starts within b current stands =
    let made = c.insert.ensures.rule starts (record { fault = within.fault; depth = within.depth }) b current stands in
    let told = c.has.ensures.rule (perform InsertElement b).tree refl (subst (IsStackOf (perform InsertElement b).tree) (sym c.open.ensures.elements) made.tree.stack) c.open.ensures.index in
    form_set c.args.tag.now c.insert.new.self c.set_form.new.self b c.has.result starts current told c.if-not-has.true c.set_form.ensures made

pub returns-else-not-has-clause-rule : goal.returns-else-not-has-clause-rule
returns-else-not-has-clause-rule c starts within b current stands =
    let made = c.insert.ensures.rule starts within b current stands in
    let told = c.has.ensures.rule (perform InsertElement b).tree refl (subst (IsStackOf (perform InsertElement b).tree) (sym c.open.ensures.elements) made.tree.stack) c.open.ensures.index in
    form_unset c.insert.new.self b c.has.result told c.if-not-has.false made
