use Rattle.std.proofs.Common.{refl}
use Rattle.page_trees.proofs.BodyInputs.{input_left, input_started}
use Rattle.page_trees.proofs.builder.TreeBuilder.start_input.Goals as goal

pub returns-then-is_context-clause-rule : goal.returns-then-is_context-clause-rule
returns-then-is_context-clause-rule c = input_left c.args.tag.now c.args.self.now c.is_context.result (c.is_context.ensures refl) c.if-is_context.true

pub returns-clause-rule : goal.returns-clause-rule
returns-clause-rule c =
    input_started c.args.tag.now c.args.self.now c.close_select.new.self c.fill_body_with_input.new.self c.insert_input.new.self c.insert_input.result c.is_context.result
    (c.is_context.ensures refl) c.if-is_context.false c.insert_input.ensures.next c.close_select.ensures.rule c.fill_body_with_input.ensures.rule c.insert_input.ensures.rule
    c.close_select.ensures.limits c.fill_body_with_input.ensures.limits c.insert_input.ensures.limits
