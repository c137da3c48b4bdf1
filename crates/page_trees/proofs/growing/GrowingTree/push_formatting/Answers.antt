use Rattle.page_trees.proofs.ListedEntries.{enlists, none_enlisted, open_there}
use Rattle.page_trees.proofs.PushedEntries.{entry_listed}
use Rattle.page_trees.proofs.growing.GrowingTree.push_formatting.Goals as goal

pub enlist-requires : goal.enlist-requires
enlist-requires c = c.self.invariant.0.likes

pub invariant_of-self : goal.invariant_of-self
invariant_of-self c =
    (entry_listed _ _ _ _ _ _ _ c.in-Some.open _ c.self.invariant.0 c.in-Some.ensures.found c.enlist.ensures.ok c.enlist.ensures.err c.enlist.ensures.likes, c.self.invariant.1)

pub invariant_of-self-2 : goal.invariant_of-self-2
invariant_of-self-2 c =
    (entry_listed _ _ _ _ _ _ _ c.in-Some.open _ c.self.invariant.0 c.in-Some.ensures.found c.enlist.ensures.ok c.enlist.ensures.err c.enlist.ensures.likes, c.self.invariant.1)

pub returns-in_default : goal.returns-in_default
returns-in_default c = none_enlisted c.args.self.now _ c.args.self.now c.self.view_is c.in_default.ensures.value

pub returns : goal.returns
returns c =
    enlists c.args.self.now _ c.in-Some.open _ c.self.view_is c.in_ok-enlist.ensures.ok c.in-Some.ensures.value
    (open_there c.self.inside.tree _ _ c.in-Some.open c.self.invariant.0.stack c.in-Some.ensures.value) c.self.invariant.0.formatting
