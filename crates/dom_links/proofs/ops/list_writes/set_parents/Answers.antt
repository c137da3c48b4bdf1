use Rattle.std.proofs.Common.{◌≤◌, arith, length}
use Rattle.dom_links.proofs.moves.BlockWrites.{setting_starts, setting_goes_on, set_at_end, set_in_all}
use Rattle.dom_links.proofs.ops.list_writes.set_parents.Goals as goal

pub returns-in_default-clause-set : goal.returns-in_default-clause-set
returns-in_default-clause-set c = (set_at_end c.args.nodes.now c.loop-step.nodes c.args.x c.args.owner c.loop-step._step c.loop-step.end c.loop-step.next c.requires.known c.loop-step.invariant c.in_default.is).0

pub returns-in_default-clause-end : goal.returns-in_default-clause-end
returns-in_default-clause-end c = (set_at_end c.args.nodes.now c.loop-step.nodes c.args.x c.args.owner c.loop-step._step c.loop-step.end c.loop-step.next c.requires.known c.loop-step.invariant c.in_default.is).1

pub loop-step-init : goal.loop-step-init
loop-step-init c = setting_starts c.args.nodes.now c.args.x c.args.owner c.requires.known

pub loop-step-preserved : goal.loop-step-preserved
loop-step-preserved c =
    rw (c.new-node.ensures, c.get-next.ensures) (setting_goes_on c.args.nodes.now c.loop-step.nodes c.args.x c.args.owner c.loop-step._step c.loop-step.end c.loop-step.next c.in-Some.at c.value.result c.index-nodes-value.result
    c.requires.nexts_known c.loop-step.invariant c.in-Some.is (omega arith) c.value.ensures.number)

pub returns-clause-set : goal.returns-clause-set
returns-clause-set c =
    let done : length c.args.nodes.now ≤ c.loop-step._step = omega arith in
    (set_in_all c.args.nodes.now c.loop-step.nodes c.args.x c.args.owner c.loop-step._step c.loop-step.end c.loop-step.next c.requires.known c.loop-step.invariant done).0

pub returns-clause-end : goal.returns-clause-end
returns-clause-end c =
    let done : length c.args.nodes.now ≤ c.loop-step._step = omega arith in
    (set_in_all c.args.nodes.now c.loop-step.nodes c.args.x c.args.owner c.loop-step._step c.loop-step.end c.loop-step.next c.requires.known c.loop-step.invariant done).1
