use Rattle.page_trees.proofs.UnlistedEntries.{unlists_found, unlists_none}
use Rattle.page_trees.proofs.growing.GrowingTree.remove_formatting.Goals as goal

pub returns-in-Some-clause-rule : goal.returns-in-Some-clause-rule
returns-in-Some-clause-rule c =
    unlists_found c.args.self.now _ c.remove_entry.new.self c.args.id c.in-Some.index c.index_of.result c.self.view_is c.index_of.ensures.place c.in-Some.is c.remove_entry.ensures

pub returns-in_default-clause-rule : goal.returns-in_default-clause-rule
returns-in_default-clause-rule c = unlists_none c.args.self.now _ c.args.id c.index_of.result c.self.view_is c.index_of.ensures.place c.in_default.is
