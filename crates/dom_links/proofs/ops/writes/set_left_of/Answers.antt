use Rattle.std.proofs.Common.{sym, ◌∙◌, ap, Some, rules}
use Rattle.dom_links.proofs.forest.Written.{prev_written, last_written}
use Rattle.dom_links.proofs.ops.writes.set_left_of.Goals as goal

pub returns-in-Some : goal.returns-in-Some
returns-in-Some c = rw c.new.ensures (prev_written c.args.nodes.now c.value.result c.index-nodes-value.result c.args.owner c.args.right c.args.left (search rules) (c.in-Some.is ∙ ap Some (sym c.value.ensures.number)))

pub returns : goal.returns
returns c = rw c.new-2.ensures (last_written c.args.nodes.now c.value-2.result c.index-nodes-value-2.result c.args.owner c.args.right c.args.left (search rules) c.in_default.is (c.in-Some-owner.is ∙ ap Some (sym c.value-2.ensures.number)))
