use Rattle.std.proofs.Common.{sym, ◌∙◌, ap, Some, rules}
use Rattle.dom_links.proofs.forest.Written.{next_written, first_written}
use Rattle.dom_links.proofs.ops.writes.set_right_of.Goals as goal

pub returns-in-Some : goal.returns-in-Some
returns-in-Some c = rw c.new.ensures (next_written c.args.nodes.now c.value.result c.index-nodes-value.result c.args.owner c.args.left c.args.right (search rules) (c.in-Some.is ∙ ap Some (sym c.value.ensures.number)))

pub returns : goal.returns
returns c = rw c.new-2.ensures (first_written c.args.nodes.now c.value-2.result c.index-nodes-value-2.result c.args.owner c.args.left c.args.right (search rules) c.in_default.is (c.in-Some-owner.is ∙ ap Some (sym c.value-2.ensures.number)))
