use Rattle.std.proofs.Common.{refl}
use Rattle.page_trees.proofs.FormattingTags.{a_started}
use Rattle.page_trees.proofs.builder.TreeBuilder.start_a.Goals as goal

pub returns-clause-rule : goal.returns-clause-rule
returns-clause-rule c =
    a_started c.args.tag.now c.args.self.now c.drop_a.new.self c.start_listed.new.self c.start_listed.result c.start_listed.ensures.next
    (λ within. c.start_listed.ensures.limits (record { fault = within.fault; depth = within.depth })) c.drop_a.ensures.none c.drop_a.ensures.rule
    (c.start_listed.ensures.rule refl)

pub returns-clause-limits : goal.returns-clause-limits
returns-clause-limits c within =
    let before = c.start_listed.ensures.limits (record { fault = within.fault; depth = within.depth }) in
    c.drop_a.ensures.limits (record { fault = before.fault; depth = before.depth })
