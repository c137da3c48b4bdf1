use Rattle.page_trees.proofs.builder.TreeBuilder.before_start.Goals as goal

pub returns-clause-rule : goal.returns-clause-rule
returns-clause-rule c within b stands =
    let second = c.fill_body_for.ensures.limits within in
    let first = c.reconstruct_for.ensures.limits second in
    c.fill_body_for.ensures.rule within _ (c.reconstruct_for.ensures.rule second _ (c.end_paragraph_for.ensures.rule first b stands))
