use Rattle.dom_links.specs.Forest.{forest_of}
use Rattle.dom_links.proofs.moves.BlockMoves.{left_known, nexts_known, owner_known, right_known, run_put, start_known}
use Rattle.dom_links.proofs.ops.moves.put_at.Goals as goal

pub attach_run-requires-clause-nexts_known : goal.attach_run-requires-clause-nexts_known
attach_run-requires-clause-nexts_known c = nexts_known (forest_of c.args.nodes.now) c.args.nodes.now c.requires.linked

pub attach_run-requires-clause-known : goal.attach_run-requires-clause-known
attach_run-requires-clause-known c = start_known (forest_of c.args.nodes.now) c.args.nodes.now c.args.x c.requires.linked c.requires.run

pub attach_run-requires-clause-point_known : goal.attach_run-requires-clause-point_known
attach_run-requires-clause-point_known c = record {
  owner = owner_known (forest_of c.args.nodes.now) c.args.nodes.now c.args.gap _ c.requires.linked c.requires.target_known c.resolved_point_at-room.ensures.owner;
  left = left_known (forest_of c.args.nodes.now) c.args.nodes.now c.args.gap _ c.requires.linked c.requires.target_known c.resolved_point_at-room.ensures.left;
  right = right_known (forest_of c.args.nodes.now) c.args.nodes.now c.args.gap _ c.requires.linked c.requires.target_known c.resolved_point_at-room.ensures.right;
}

pub returns : goal.returns
returns c =
    run_put (forest_of c.args.nodes.now) c.args.nodes.now c.attach_run.new.nodes c.args.gap c.args.x _ _ _ c.requires.linked c.requires.run c.requires.target_known c.requires.apart
    c.resolved_point_at-room.ensures.owner c.resolved_point_at-room.ensures.left c.resolved_point_at-room.ensures.right c.attach_run.ensures
