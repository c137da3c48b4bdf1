use Rattle.std.proofs.Common.{◌≡◌, ◌+◌, ◌*◌, length, ap, subst, ◌∙◌}
use Rattle.dom_links.specs.Forest.{forest_of}
use Rattle.dom_links.specs.Walk.{Walk}
use Rattle.dom_links.proofs.walks.Steps.{walk_cost}
use Rattle.dom_links.proofs.iters.DescendantNodes.reads.Goals as goal

pub returns-clause-in_all : goal.returns-clause-in_all
returns-clause-in_all c = λ none.
    subst (λ (walk : Walk). c.self.inside.reads + walk.leaves ≡ 2 * length walk.whole + 1) c.self.view_is
    (walk_cost (forest_of c.self.inside.nodes.now) c.self.inside.start_id c.self.inside.next_child_id c.self.inside.reads c.self.invariant.0.forest c.self.invariant.1 c.self.invariant.2
    (ap (λ (walk : Walk). walk.left) c.self.view_is ∙ none))
