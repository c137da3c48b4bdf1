use Rattle.std.proofs.Common.{refl}
use Rattle.page_trees.proofs.BodyInputs.{select_ended, select_left, select_started}
use Rattle.page_trees.proofs.builder.TreeBuilder.start_select.Goals as goal

pub returns-then-is_context-clause-rule : goal.returns-then-is_context-clause-rule
returns-then-is_context-clause-rule c = select_left c.args.tag.now c.args.self.now c.is_context.result (c.is_context.ensures refl) c.if-is_context.true

pub returns-then-close_select-clause-rule : goal.returns-then-close_select-clause-rule
returns-then-close_select-clause-rule c =
    select_ended c.args.tag.now c.args.self.now c.close_select.new.self c.is_context.result c.close_select.result (c.is_context.ensures refl) c.if-is_context.false
    c.close_select.ensures.found c.if-close_select.true c.close_select.ensures.limits c.close_select.ensures.rule

pub returns-clause-rule : goal.returns-clause-rule
returns-clause-rule c =
    select_started c.args.tag.now c.args.self.now c.close_select.new.self c.insert_inline.new.self c.insert_inline.result c.is_context.result c.close_select.result
    (c.is_context.ensures refl) c.if-is_context.false c.close_select.ensures.found c.if-close_select.false c.insert_inline.ensures.next c.close_select.ensures.rule
    c.close_select.ensures.limits c.insert_inline.ensures.limits c.insert_inline.ensures.rule
