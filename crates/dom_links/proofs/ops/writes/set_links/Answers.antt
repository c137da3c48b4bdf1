use Rattle.std.proofs.Common.{rules}
use Rattle.dom_links.proofs.forest.Written.{place_written}
use Rattle.dom_links.proofs.ops.writes.set_links.Goals as goal

pub returns : goal.returns
returns c = rw (c.new-node.ensures, c.new-node-2.ensures, c.new-node-3.ensures) (place_written c.args.nodes.now c.value.result c.args.x c.index-nodes-value.result c.args.parent c.args.prev c.args.next (search rules) c.value.ensures.number)
