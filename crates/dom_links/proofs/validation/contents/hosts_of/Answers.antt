use Rattle.std.proofs.Common.{◌≡◌, ◌<◌, ◌+◌, Some, arith, sym, ◌∙◌, length}
use Rattle.std.proofs.lemmas.Option.{same_Some, none-some}
use Rattle.std.proofs.Math.ListN.{set}
use Rattle.dom_links.proofs.checks.Checked.{Holds, holds_on, holds_set, holds_all, id_read_at}
use Rattle.dom_links.proofs.validation.contents.hosts_of.Goals as goal
use Rattle.dom_links.proofs.validation.contents.hosts_of.Goals.{in-Some+then-value-nodes, in-Some+else-value-nodes, in_default}

pub loop-node-preserved : goal.loop-node-preserved
loop-node-preserved c =
    let here : c.loop-node.node-index < length c.args.nodes.now = omega arith in
    elim c.match-template_contents.branch [
      | in-Some+then-value-nodes w ↦ (let names = sym c.template_contents.ensures ∙ w.in-Some.is in
          let inside : w.in-Some.contents < length c.args.nodes.now = omega (arith, w.value.ensures.number, w.if-value-nodes.true) in
          let id : c.node-item.result.id ≡ c.loop-node.node-index = same_Some _ _ (sym (id_read_at c.args.nodes.now c.loop-node.node-index c.node-item.result here c.node-item.is) ∙ c.requires c.loop-node.node-index here) in
          let next : Holds c.args.nodes.now (set c.loop-node.hosts.items w.in-Some.contents (Some c.node-item.result.id)) (c.loop-node.node-index + 1) = holds_set c.args.nodes.now c.loop-node.hosts.items c.loop-node.node-index w.in-Some.contents c.node-item.result c.loop-node.invariant here c.node-item.is id names inside in
          rw (w.hosts-is, w.value-then-value-nodes.ensures.number) next)
      | in-Some+else-value-nodes w ↦ rw w.hosts-is (holds_on c.args.nodes.now c.loop-node.hosts.items c.loop-node.node-index c.node-item.result c.loop-node.invariant here c.node-item.is
          (λ k e inside. let same : w.in-Some.contents ≡ k = same_Some _ _ (sym w.in-Some.is ∙ c.template_contents.ensures ∙ e) in omega (arith, w.value.ensures.number, w.if-value-nodes.false)))
      | in_default w ↦ rw w.hosts-is (holds_on c.args.nodes.now c.loop-node.hosts.items c.loop-node.node-index c.node-item.result c.loop-node.invariant here c.node-item.is
          (λ k e inside. none-some _ (sym w.in_default.is ∙ c.template_contents.ensures ∙ e)))
    ]

pub returns : goal.returns
returns c = holds_all c.args.nodes.now c.loop-node.hosts.items c.loop-node.node-index c.loop-node.invariant c.loop-node-test.false
