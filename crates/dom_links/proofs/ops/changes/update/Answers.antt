use Rattle.std.proofs.Common.{rules}
use Rattle.std.specs.Fn.{FnOnceReturnsAtMut}
use Rattle.dom_links.proofs.forest.Changing.{updated, updated_none}
use Rattle.dom_links.proofs.ops.changes.update.Goals as goal

pub returns-then-at-nodes-clause-updated : goal.returns-then-at-nodes-clause-updated
returns-then-at-nodes-clause-updated g c =
    (updated (λ edit left. FnOnceReturnsAtMut g.F.FnOnce c.args.change edit tt left) c.args.nodes.now c.value-at.result c.args.x c.update.new.self c.index-nodes-at.result
    c.requires.sound (search rules) c.value-at.ensures.number c.update.ensures.content c.update.ensures.links).0

pub returns-then-at-nodes-clause-sound : goal.returns-then-at-nodes-clause-sound
returns-then-at-nodes-clause-sound g c =
    (updated (λ edit left. FnOnceReturnsAtMut g.F.FnOnce c.args.change edit tt left) c.args.nodes.now c.value-at.result c.args.x c.update.new.self c.index-nodes-at.result
    c.requires.sound (search rules) c.value-at.ensures.number c.update.ensures.content c.update.ensures.links).1

pub returns-else-at-nodes-clause-updated : goal.returns-else-at-nodes-clause-updated
returns-else-at-nodes-clause-updated g c =
    updated_none (λ edit left. FnOnceReturnsAtMut g.F.FnOnce c.args.change edit tt left) c.args.nodes.now c.value-at.result c.args.x c.requires.sound (search rules) c.value-at.ensures.number
