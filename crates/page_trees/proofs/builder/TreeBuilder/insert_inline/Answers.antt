use Rattle.page_trees.proofs.ClosedEntries.{still_current}
use Rattle.page_trees.proofs.builder.TreeBuilder.insert_inline.Goals as goal

pub returns-clause-rule : goal.returns-clause-rule
returns-clause-rule c starts within b current stands =
    let before = c.insert_done.ensures.limits (record { fault = within.fault; depth = within.depth }) in
    c.insert_done.ensures.rule starts (record { fault = within.fault; depth = within.depth }) _ (still_current c.args.name c.args.tag.now b current)
    (c.reconstruct.ensures.rule (record { fault = before.fault; depth = before.depth }) b stands)
