use Rattle.page_trees.proofs.builder.TreeBuilder.insert_text_element.Goals as goal

pub returns-clause-rule : goal.returns-clause-rule
returns-clause-rule c s is starts within b current stands =
    c.read_text.ensures.rule s is within _ (c.insert.ensures.rule starts (c.read_text.ensures.limits within) b current stands)
