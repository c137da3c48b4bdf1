use Rattle.page_trees.proofs.StackSearches.{index_pushed}
use Rattle.page_trees.proofs.stack.OpenElements.push.Goals as goal

pub returns-clause-index : goal.returns-clause-index
returns-clause-index c is =
    c.mark.ensures.index (index_pushed c.args.self.now.elements.items c.push.new.self.items c.reserve.new.self c.args.element.now c.in_ok-push.ensures.items (c.reserve.ensures c.args.self.now.elements.items is))
