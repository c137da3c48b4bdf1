use Rattle.std.proofs.Common.{◌≡◌, ◌<◌, ◌++◌, ◌∷◌, [], arith, length, rules, sym}
use Rattle.dom_links.specs.Forest.{prev_link}
use Rattle.dom_links.proofs.checks.Checked.{LinksRead, links_more, links_read}
use Rattle.dom_links.proofs.validation.cycles.siblings_before.Goals as goal

pub loop-node-preserved : goal.loop-node-preserved
loop-node-preserved c =
    let here : c.loop-node.node-index < length c.args.nodes.now = omega arith in
    let read = links_read c.args.nodes.now c.loop-node.node-index c.node-item.result here c.node-item.is in
    let pushed : c.push.new.self.items ≡ c.loop-node.prevs.items ++ c.node-item.result.prev_sibling ∷ [] = search rules in
    rw pushed
    (links_more c.loop-node.prevs.items c.loop-node.node-index (prev_link c.args.nodes.now) c.node-item.result.prev_sibling c.loop-node.invariant (sym (LinksRead.prev_is read)))
