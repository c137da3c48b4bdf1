use Rattle.page_trees.proofs.builder.TreeBuilder.end_p.Goals as goal

pub returns-clause-rule : goal.returns-clause-rule
returns-clause-rule c within b stands =
    c.end_paragraph.ensures.rule within _ (c.imply_paragraph.ensures.rule (c.end_paragraph.ensures.limits within) b stands)
