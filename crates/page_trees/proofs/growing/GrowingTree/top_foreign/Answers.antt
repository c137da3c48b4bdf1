use Rattle.std.proofs.Common.{sym, true≢false}
use Rattle.page_trees.proofs.ForeignEnds.{none_is, top_is}
use Rattle.page_trees.proofs.growing.GrowingTree.top_foreign.Goals as goal

pub returns-in-Some : goal.returns-in-Some
returns-in-Some c text is t b = top_is _ c.args.self.now c.args.name _ text t _ _ c.self.view_is b is c.in-Some.ensures.other (c.top_foreign.ensures c.self.invariant.1)

pub returns-in-None : goal.returns-in-None
returns-in-None c text is t b = none_is c.args.self.now c.args.name _ text t b is (λ known. true≢false (sym (c.in-None.ensures.known known))) c.in-None.ensures.other
