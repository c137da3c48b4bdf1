use Rattle.std.proofs.Common.{◌≡◌, ◌<◌, ◌≤◌, List, length, arith, sym, ap, subst, ◌∙◌}
use Rattle.std.proofs.lemmas.List.{with_items_is, length_push}
use Rattle.dom_nodes.specs.declared.node_data.TreeNode.{TreeNode}
use Rattle.dom_links.specs.Growth.{Appended}
use Rattle.dom_links.specs.Writes.{LinkedLast}
use Rattle.dom_links.proofs.forest.Linked.{last_was, last_there, linked_there}
use Rattle.dom_links.proofs.ops.create.add_child.Goals as goal

pub link_last-requires-clause-left_known : goal.link_last-requires-clause-left_known
link_last-requires-clause-left_known c =
    let known : c.args.t < length c.args.nodes.now.items = omega (arith, c.requires.target_known) in
    let grown : length c.args.nodes.now.items ≤ length c.deref_mut.result.now = omega (arith, ap length c.deref_mut.ensures.value ∙ ap length c.in_ok-id.ensures.ok ∙ length_push c.args.nodes.now.items _) in
    last_there c.args.nodes.now.items c.args.t _ _ c.requires.linked (c.get-left.ensures ∙ last_was c.args.nodes.now.items c.args.t _ _ c.requires.linked known c.value.ensures.number c.index.ensures) grown

pub returns-clause-ok : goal.returns-clause-ok
returns-clause-ok c =
    let same : length c.link_last.new.nodes ≡ length c.deref_mut.result.now = omega arith in
    let long : length c.link_last.new.nodes ≡ c.push_new.new.nodes.len = same ∙ c.deref_mut.ensures.len in
    let known : c.args.t < length c.args.nodes.now.items = omega (arith, c.requires.target_known) in
    let left = c.get-left.ensures ∙ last_was c.args.nodes.now.items c.args.t _ _ c.requires.linked known c.value.ensures.number c.index.ensures in
    let number : c.in_ok-id.id ≡ length c.args.nodes.now.items = omega (arith, c.in_ok-id.ensures.adds.number) in
    subst (λ (nodes : List TreeNode). Appended c.args.nodes.now.items nodes c.args.t c.args.content) (sym (with_items_is c.push_new.new.nodes c.link_last.new.nodes long))
    (linked_there c.args.nodes.now.items c.push_new.new.nodes.items c.link_last.new.nodes c.args.t c.in_ok-id.id _ c.args.content c.requires.linked known left number c.in_ok-id.ensures.ok
    (subst (λ (nodes : List TreeNode). LinkedLast nodes c.link_last.new.nodes c.args.t c.get-left.result c.in_ok-id.id) c.deref_mut.ensures.value c.link_last.ensures))
