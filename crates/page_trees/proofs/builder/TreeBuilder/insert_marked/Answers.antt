use Rattle.page_trees.proofs.builder.TreeBuilder.insert_marked.Goals as goal

pub returns-clause-rule : goal.returns-clause-rule
returns-clause-rule c starts within b current stands =
    let before = c.push_marker.ensures.limits (record { fault = within.fault; depth = within.depth }) in
    c.push_marker.ensures.rule (record { fault = within.fault; depth = within.depth }) _
    (c.insert.ensures.rule starts (record { fault = before.fault; depth = before.depth }) b current stands)
