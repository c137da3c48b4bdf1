use Rattle.page_trees.proofs.AdoptedChildren.{entry_lacking, entry_taken}
use Rattle.page_trees.proofs.growing.GrowingTree.take_entry.Goals as goal

pub returns-clause-taken : goal.returns-clause-taken
returns-clause-taken c =
    entry_taken _ c.args.self.now c.remove_entry.new.self c.args.element c.in-Some.gone c.args.bookmark c.without.result c.index_of.result c.self.view_is c.index_of.ensures.place c.in-Some.is
    c.remove_entry.ensures c.without.ensures.before c.without.ensures.behind

pub returns-in_default-clause-taken : goal.returns-in_default-clause-taken
returns-in_default-clause-taken c gone finds = entry_lacking _ c.args.self.now c.args.element gone c.index_of.result c.self.view_is c.index_of.ensures.place c.in_default.is finds
