use Rattle.std.proofs.Common.{◌∙◌, ap, sym}
use Rattle.dom_links.specs.Lists.{is_member}
use Rattle.dom_links.specs.Sound.{target}
use Rattle.dom_links.proofs.copies.Gathering.{none_moved}
use Rattle.dom_links.proofs.moves.BlockMoves.{IsRun, is_run, run_moved}
use Rattle.dom_links.proofs.ops.insertions.move_list.Goals as goal

pub returns-in_default : goal.returns-in_default
returns-in_default c = none_moved c.args.nodes.now c.gather.new.nodes c.args.gap c.args.moved.now c.requires.moved (sym c.gather.ensures.start ∙ c.in_default.is) c.gather.ensures.arena

pub put_at-requires-clause-linked : goal.put_at-requires-clause-linked
put_at-requires-clause-linked c =
    IsRun.linked (is_run c.args.nodes.now c.gather.new.nodes c.args.moved.now c.in-Some.start c.requires.linked c.requires.moved c.gather.ensures.arena (sym c.gather.ensures.start ∙ c.in-Some.is))

pub put_at-requires-clause-run : goal.put_at-requires-clause-run
put_at-requires-clause-run c =
    IsRun.run (is_run c.args.nodes.now c.gather.new.nodes c.args.moved.now c.in-Some.start c.requires.linked c.requires.moved c.gather.ensures.arena (sym c.gather.ensures.start ∙ c.in-Some.is))

pub put_at-requires-clause-apart : goal.put_at-requires-clause-apart
put_at-requires-clause-apart c =
    ap (is_member (target c.args.gap)) (IsRun.all (is_run c.args.nodes.now c.gather.new.nodes c.args.moved.now c.in-Some.start c.requires.linked c.requires.moved c.gather.ensures.arena (sym c.gather.ensures.start ∙ c.in-Some.is))) ∙ c.requires.apart

pub returns : goal.returns
returns c =
    run_moved c.args.nodes.now c.gather.new.nodes c.put_at.new.nodes c.args.gap c.args.moved.now c.in-Some.start c.requires.linked c.requires.moved
    (is_run c.args.nodes.now c.gather.new.nodes c.args.moved.now c.in-Some.start c.requires.linked c.requires.moved c.gather.ensures.arena (sym c.gather.ensures.start ∙ c.in-Some.is))
    c.put_at.ensures
