use Rattle.page_trees.proofs.IndexLemmas.{found_mark}
use Rattle.page_trees.proofs.stack.marks.found.Goals as goal

pub returns : goal.returns
returns c elements below top =
    found_mark elements c.args.element.now c.args.below.now c.args.top c.topmost_of.result c.topmost_of-2.result c.topmost_of-3.result c.topmost_of-4.result c.is.result c.is-2.result c.is-3.result c.is-4.result
    below top c.is.ensures c.is-2.ensures c.is-3.ensures c.is-4.ensures c.topmost_of.ensures c.topmost_of-2.ensures c.topmost_of-3.ensures c.topmost_of-4.ensures
