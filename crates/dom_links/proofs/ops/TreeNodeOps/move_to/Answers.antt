use Rattle.std.proofs.Common.{ap, ◌∙◌}
use Rattle.dom_links.specs.Lists.{is_member}
use Rattle.dom_links.specs.Sound.{target}
use Rattle.dom_links.proofs.moves.BlockMoves.{IsRun, is_cut_out, moves}
use Rattle.dom_links.proofs.ops.TreeNodeOps.move_to.Goals as goal

pub put_at-requires-clause-linked : goal.put_at-requires-clause-linked
put_at-requires-clause-linked c =
    IsRun.linked (is_cut_out c.args.nodes.now c.cut_out-start.new.nodes c.args.moving c.cut_out-start.result c.requires.linked c.requires.known c.cut_out-start.ensures.arena c.cut_out-start.ensures.start)

pub put_at-requires-clause-run : goal.put_at-requires-clause-run
put_at-requires-clause-run c =
    IsRun.run (is_cut_out c.args.nodes.now c.cut_out-start.new.nodes c.args.moving c.cut_out-start.result c.requires.linked c.requires.known c.cut_out-start.ensures.arena c.cut_out-start.ensures.start)

pub put_at-requires-clause-apart : goal.put_at-requires-clause-apart
put_at-requires-clause-apart c =
    ap (is_member (target c.args.gap)) (IsRun.all (is_cut_out c.args.nodes.now c.cut_out-start.new.nodes c.args.moving c.cut_out-start.result c.requires.linked c.requires.known c.cut_out-start.ensures.arena c.cut_out-start.ensures.start)) ∙ c.requires.apart

pub returns : goal.returns
returns c =
    moves c.args.nodes.now c.cut_out-start.new.nodes c.put_at.new.nodes c.args.gap c.args.moving c.cut_out-start.result c.requires.linked c.requires.known
    (is_cut_out c.args.nodes.now c.cut_out-start.new.nodes c.args.moving c.cut_out-start.result c.requires.linked c.requires.known c.cut_out-start.ensures.arena c.cut_out-start.ensures.start)
    c.put_at.ensures
