use Rattle.page_trees.proofs.BodyForms.{form_left, form_started}
use Rattle.page_trees.proofs.builder.TreeBuilder.start_form.Goals as goal

pub returns-then-is_in_form-clause-rule : goal.returns-then-is_in_form-clause-rule
returns-then-is_in_form-clause-rule c = form_left c.args.tag.now c.args.self.now c.is_in_form.result c.is_in_form.ensures c.if-is_in_form.true

pub returns-clause-rule : goal.returns-clause-rule
returns-clause-rule c =
    form_started c.args.tag.now c.args.self.now c.end_paragraph.new.self c.insert_form.new.self c.insert_form.result c.is_in_form.result c.is_in_form.ensures c.if-is_in_form.false
    c.insert_form.ensures.next c.end_paragraph.ensures.rule c.end_paragraph.ensures.limits c.insert_form.ensures.limits c.insert_form.ensures.rule
