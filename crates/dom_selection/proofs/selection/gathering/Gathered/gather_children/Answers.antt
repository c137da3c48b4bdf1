use Rattle.dom_selection.proofs.GatherLemmas.{goes_on_elements}
use Rattle.dom_selection.proofs.selection.gathering.Gathered.gather_children.Goals as goal

pub loop-child-preserved : goal.loop-child-preserved
loop-child-preserved c =
    goes_on_elements c.args.self.now c.loop-child.self c.gather_element.new.self _ c.loop-child.child-iterator c.next.new.self c.in-Some.child
    c.loop-child.invariant c.in-Some.ensures.steps c.in_ok-gather_element.ensures
