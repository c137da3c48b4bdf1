use Rattle.dom_selection.proofs.GatherLemmas.{goes_on_elements}
use Rattle.dom_selection.proofs.selection.gathering.Gathered.gather_ancestors.Goals as goal

pub loop-above-preserved : goal.loop-above-preserved
loop-above-preserved c =
    goes_on_elements c.args.self.now c.loop-above.self c.gather_element.new.self _ c.loop-above.above-iterator c.next.new.self c.in-Some.above
    c.loop-above.invariant c.in-Some.ensures.steps c.in_ok-gather_element.ensures
