use Rattle.page_trees.proofs.reading.PageReader.fragment.Goals as goal

pub returns-clause-begins : goal.returns-clause-begins
returns-clause-begins c unspaced =
    c.begin_fragment.ensures.begins c.args.options.scripting
    (record { tokens = c.new-reader.ensures.tokens; empty = c.new-reader.ensures.empty; stands = c.new-reader.ensures.stands c.in_ok-tree.ensures.rule }) unspaced
