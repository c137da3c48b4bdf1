use Rattle.std.proofs.Common.{◌∷◌, arith, sym, subst, take}
use Rattle.dom_links.specs.Forest.{forest_of}
use Rattle.dom_links.proofs.moves.Cuts.{length-contents}
use Rattle.dom_links.proofs.copies.Gathering.{IsGathered, all_gathered, apart_from_last, front_more, gather_more, last_known, nothing_cut, part_known, start_known}
use Rattle.dom_links.proofs.moves.Cuts.{no_other}
use Rattle.dom_links.proofs.ops.insertions.gather.Goals as goal

pub returns-in_default-clause-arena : goal.returns-in_default-clause-arena
returns-in_default-clause-arena c = nothing_cut c.args.nodes.now c.args.moved.now c.in_default.ensures.cases c.requires.linked

pub remove_from_parent-requires-clause-known : goal.remove_from_parent-requires-clause-known
remove_from_parent-requires-clause-known c =
    let long = length-contents (forest_of c.args.nodes.now) c.args.nodes.now c.requires.linked.links in
    let first_known = start_known (forest_of c.args.nodes.now) c.args.moved.now c.in-Some.others.now c.in-Some.start.now c.requires.moved c.in-Some.ensures.cases.0 in
    omega (arith, long, first_known)

pub insert_after_of-requires : goal.insert_after_of-requires
insert_after_of-requires c =
    let base = forest_of c.args.nodes.now in
    let front = c.in-Some.start.now ∷ take c.loop-id.id-index c.in-Some.others.now in
    let more = front_more base c.args.moved.now c.in-Some.others.now c.in-Some.start.now c.loop-id.id-index c.id-item.result c.requires.moved c.in-Some.ensures.cases.0 c.loop-id-test.true c.id-item.is in
    let last = last_known base front c.loop-id.last c.id-item.result more.0 c.loop-id.invariant.ends in
    let known = part_known base front c.id-item.result more.0 in
    record {
      linked = c.loop-id.invariant.linked;
      target_known = omega (arith, c.loop-id.invariant.many, last);
      known = omega (arith, c.loop-id.invariant.many, known);
      apart = no_other c.loop-id.last c.id-item.result (apart_from_last base front c.loop-id.last c.id-item.result more.0 c.loop-id.invariant.ends);
    }

pub loop-id-preserved : goal.loop-id-preserved
loop-id-preserved c =
    let base = forest_of c.args.nodes.now in
    let more = front_more base c.args.moved.now c.in-Some.others.now c.in-Some.start.now c.loop-id.id-index c.id-item.result c.requires.moved c.in-Some.ensures.cases.0 c.loop-id-test.true c.id-item.is in
    subst (λ ns. IsGathered base ns c.insert_after_of.new.nodes c.id-item.result) (sym more.1)
    (gather_more base c.loop-id.nodes c.insert_after_of.new.nodes (c.in-Some.start.now ∷ take c.loop-id.id-index c.in-Some.others.now) c.loop-id.last c.id-item.result
    c.requires.linked.once.runs_each more.0 c.loop-id.invariant c.insert_after_of.ensures)

pub returns-clause-arena : goal.returns-clause-arena
returns-clause-arena c = all_gathered (forest_of c.args.nodes.now) c.loop-id.nodes c.args.moved.now c.in-Some.others.now c.in-Some.start.now c.loop-id.id-index c.loop-id.last c.in-Some.ensures.cases.0 c.loop-id-test.false c.loop-id.invariant
