use Rattle.std.proofs.Common.{rules}
use Rattle.dom_links.specs.AddedTexts.{lengthened}
use Rattle.dom_links.proofs.texts.AddingTexts.{keeps_longer}
use Rattle.dom_links.proofs.forest.Changing.{written, unknown}
use Rattle.dom_links.proofs.ops.add_text.lengthen.Goals as goal

pub returns-then-at-nodes-clause-ok : goal.returns-then-at-nodes-clause-ok
returns-then-at-nodes-clause-ok c = unknown c.args.nodes.now c.value-at.result c.args.x (lengthened c.args.more.now) (keeps_longer c.args.more.now) c.requires (search rules) c.value-at.ensures.number

pub returns-in-Ok-clause-ok : goal.returns-in-Ok-clause-ok
returns-in-Ok-clause-ok c = written c.args.nodes.now c.value-at.result c.args.x c.lengthen_node.new.node c.index-nodes-at.result (lengthened c.args.more.now) (keeps_longer c.args.more.now) c.requires (search rules) c.value-at.ensures.number c.in-Ok.ensures.ok
