use Rattle.std.proofs.Common.{rules}
use Rattle.std.proofs.lemmas.Result.{on_ok_weaker}
use Rattle.dom_nodes.specs.Change.{may_allocate_of, changed}
use Rattle.dom_links.proofs.forest.Changing.{written, unknown, keeps_change, asks_read}
use Rattle.dom_links.proofs.ops.changes.apply.Goals as goal

pub returns-then-at-nodes-clause-ok : goal.returns-then-at-nodes-clause-ok
returns-then-at-nodes-clause-ok c = on_ok_weaker c.change.result (λ is. written c.args.nodes.now c.value-at.result c.args.x c.change.new.self c.index-nodes-at.result (changed c.args.change) (keeps_change c.args.change) c.requires (search rules) c.value-at.ensures.number is) c.change.ensures.ok

pub returns-then-at-nodes-clause-sure : goal.returns-then-at-nodes-clause-sure
returns-then-at-nodes-clause-sure c none = c.change.ensures.sure (asks_read c.args.nodes.now c.value-at.result c.args.x c.index-nodes-at.result (may_allocate_of c.args.change) c.requires (search rules) c.value-at.ensures.number none)

pub returns-else-at-nodes-clause-ok : goal.returns-else-at-nodes-clause-ok
returns-else-at-nodes-clause-ok c = unknown c.args.nodes.now c.value-at.result c.args.x (changed c.args.change) (keeps_change c.args.change) c.requires (search rules) c.value-at.ensures.number
