use Rattle.std.proofs.Common.{subst, sym}
use Rattle.dom_links.specs.Sound.{IsForest}
use Rattle.dom_selection.proofs.AboveLemmas.{ClimbsOn, climbs_one, ends_early}
use Rattle.dom_selection.proofs.selection.gathering.Gathered.gather_all_ancestors.Goals as goal

pub loop-above-preserved : goal.loop-above-preserved
loop-above-preserved c =
    climbs_one c.args.self.now c.loop-above.self c.gather_element.new.self c.args.id c.in-Some.above c.loop-above.above-iterator c.next.new.self
    c.loop-above.invariant c.in-Some.ensures.steps c.in_ok-gather_element.ensures

pub returns-then-has : goal.returns-then-has
returns-then-has c =
    ends_early c.args.self.now c.loop-above.self c.args.id c.in-Some.above c.next.new.self (subst IsForest c.nodes-nodes.ensures.value c.nodes-nodes.ensures.sound.forest)
    c.requires (sym c.if-has.ensures) (subst (ClimbsOn c.args.self.now c.loop-above.self c.args.id) c.in-Some.ensures.steps c.loop-above.invariant)
