use Rattle.std.proofs.Common.{sym, inl, inr, ◌∙◌}
use Rattle.dom_links.proofs.checks.Checked.{astray, last_known_or, links_read}
use Rattle.dom_links.proofs.validation.links.links_in_range.Goals as goal

pub returns-then-not-is_link_known : goal.returns-then-not-is_link_known
returns-then-not-is_link_known c =
    let read = links_read c.args.nodes.now c.args.n c.index-nodes-n.result c.requires c.index-nodes-n.is in
    let to = astray c.args.nodes.now c.get.result c.if-not-is_link_known.ensures in
    (to.0, inl (read.parent_is ∙ sym c.get.ensures ∙ to.1), to.2)

pub returns-then-not-is_link_known-2 : goal.returns-then-not-is_link_known-2
returns-then-not-is_link_known-2 c =
    let read = links_read c.args.nodes.now c.args.n c.index-nodes-n.result c.requires c.index-nodes-n.is in
    let to = astray c.args.nodes.now c.get-2.result c.if-not-is_link_known-2.ensures in
    (to.0, inr (inl (read.prev_is ∙ sym c.get-2.ensures ∙ to.1)), to.2)

pub returns-then-not-is_link_known-3 : goal.returns-then-not-is_link_known-3
returns-then-not-is_link_known-3 c =
    let read = links_read c.args.nodes.now c.args.n c.index-nodes-n.result c.requires c.index-nodes-n.is in
    let to = astray c.args.nodes.now c.get-3.result c.if-not-is_link_known-3.ensures in
    (to.0, inr (inr (inl (read.next_is ∙ sym c.get-3.ensures ∙ to.1))), to.2)

pub returns-then-not-is_link_known-4 : goal.returns-then-not-is_link_known-4
returns-then-not-is_link_known-4 c =
    let read = links_read c.args.nodes.now c.args.n c.index-nodes-n.result c.requires c.index-nodes-n.is in
    let to = astray c.args.nodes.now c.get-4.result c.if-not-is_link_known-4.ensures in
    (to.0, inr (inr (inr (inl (read.first_is ∙ sym c.get-4.ensures ∙ to.1)))), to.2)

pub returns : goal.returns
returns c =
    last_known_or c.args.nodes.now c.args.n c.index-nodes-n.result c.is_link_known-5.result
    (links_read c.args.nodes.now c.args.n c.index-nodes-n.result c.requires c.index-nodes-n.is)
    (rw c.get.ensures at c.if-not-is_link_known.ensures) (rw c.get-2.ensures at c.if-not-is_link_known-2.ensures) (rw c.get-3.ensures at c.if-not-is_link_known-3.ensures) (rw c.get-4.ensures at c.if-not-is_link_known-4.ensures) (rw c.get-5.ensures at c.is_link_known-5.ensures)
