use Rattle.std.proofs.Common.{◌∙◌, sym, subst}
use Rattle.dom_links.specs.Forest.{forest_of}
use Rattle.dom_links.specs.Walk.{IsBelow}
use Rattle.dom_links.proofs.moves.Stripping.{has_parent, strip_starts, strip_ends, strip_passes, strip_dissolves, strip_shorter}
use Rattle.dom_links.proofs.ops.TreeNodeOps.strip_elements.Goals as goal

pub loop-next-init : goal.loop-next-init
loop-next-init c = strip_starts c.args.nodes.now c.args.id _ c.first_child_id-next.result c.requires c.first_child_id-next.ensures

pub dissolve-requires-clause-placed : goal.dissolve-requires-clause-placed
dissolve-requires-clause-placed c =
    has_parent (forest_of c.loop-next.nodes) c.args.id c.in-Some.at (subst (IsBelow (forest_of c.loop-next.nodes) c.args.id) c.in-Some.is c.loop-next.invariant.below).1

pub loop-next-smaller-then-is_named : goal.loop-next-smaller-then-is_named
loop-next-smaller-then-is_named c =
    let up = has_parent (forest_of c.loop-next.nodes) c.args.id c.in-Some.at (subst (IsBelow (forest_of c.loop-next.nodes) c.args.id) c.in-Some.is c.loop-next.invariant.below).1 in
    let done = strip_dissolves c.args.nodes.now c.loop-next.nodes c.dissolve.new.nodes c.args.id c.in-Some.at up.0 _ c.loop-next.next c.next_after-next.result c.in-Some.is
    c.next_after-next.ensures.steps c.next_after-next.ensures.below (sym c.is_named.ensures ∙ c.if-is_named.true) up.1 c.dissolve.ensures.made c.dissolve.ensures.sound c.loop-next.invariant in
    strip_shorter (forest_of c.loop-next.nodes) (forest_of c.dissolve.new.nodes) c.args.id c.in-Some.at c.loop-next.next c.next_after-next.result c.in-Some.is c.next_after-next.ensures.steps done.1

pub loop-next-preserved-then-is_named : goal.loop-next-preserved-then-is_named
loop-next-preserved-then-is_named c =
    let up = has_parent (forest_of c.loop-next.nodes) c.args.id c.in-Some.at (subst (IsBelow (forest_of c.loop-next.nodes) c.args.id) c.in-Some.is c.loop-next.invariant.below).1 in
    let done = strip_dissolves c.args.nodes.now c.loop-next.nodes c.dissolve.new.nodes c.args.id c.in-Some.at up.0 _ c.loop-next.next c.next_after-next.result c.in-Some.is
    c.next_after-next.ensures.steps c.next_after-next.ensures.below (sym c.is_named.ensures ∙ c.if-is_named.true) up.1 c.dissolve.ensures.made c.dissolve.ensures.sound c.loop-next.invariant in
    done.0

pub loop-next-preserved : goal.loop-next-preserved
loop-next-preserved c =
    strip_passes c.args.nodes.now c.loop-next.nodes c.args.id c.in-Some.at _ c.loop-next.next c.next_after-next.result c.in-Some.is
    c.next_after-next.ensures.steps c.next_after-next.ensures.below (sym c.is_named.ensures ∙ c.if-is_named.false) c.loop-next.invariant

pub returns-clause-made : goal.returns-clause-made
returns-clause-made c = strip_ends c.args.nodes.now c.loop-next.nodes c.args.id _ c.loop-next.next c.in_default.is c.loop-next.invariant
