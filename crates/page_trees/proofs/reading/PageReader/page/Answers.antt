use Rattle.page_trees.proofs.PageTurns.{page_begun}
use Rattle.page_trees.proofs.reading.PageReader.page.Goals as goal

pub returns-clause-begins : goal.returns-clause-begins
returns-clause-begins c =
    page_begun c.args.options.scripting c.new.result c.pages.ensures.begin c.new.ensures.tokens c.new.ensures.empty c.new.ensures.switch (c.new.ensures.stands c.in_ok-tree.ensures.rule)
