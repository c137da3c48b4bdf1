use Rattle.std.proofs.Common.{refl}
use Rattle.page_trees.proofs.FormattingTags.{nobr_started}
use Rattle.page_trees.proofs.builder.TreeBuilder.start_nobr.Goals as goal

pub returns-clause-rule : goal.returns-clause-rule
returns-clause-rule c =
    nobr_started c.args.tag.now c.args.self.now c.reconstruct.new.self c.close_nobr.new.self c.start_listed.new.self c.start_listed.result c.start_listed.ensures.next
    c.close_nobr.ensures.limits (λ within. c.start_listed.ensures.limits (record { fault = within.fault; depth = within.depth })) c.reconstruct.ensures.rule
    c.close_nobr.ensures.rule (c.start_listed.ensures.rule refl)
