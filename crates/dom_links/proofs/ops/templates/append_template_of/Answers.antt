use Rattle.std.proofs.Common.{◌≡◌, ◌<◌, List, length, arith, sym, subst, ◌∙◌}
use Rattle.std.proofs.lemmas.List.{with_items_is}
use Rattle.dom_nodes.specs.declared.node_data.TreeNode.{TreeNode}
use Rattle.dom_links.specs.Moves.{end_of}
use Rattle.dom_links.specs.Sound.{Moved}
use Rattle.dom_links.specs.Growth.{AppendedTemplate}
use Rattle.dom_links.proofs.moves.BlockMoves.{moved_one}
use Rattle.dom_links.proofs.forest.Templates.{appended_template}
use Rattle.dom_links.proofs.ops.templates.append_template_of.Goals as goal

pub returns-clause-ok : goal.returns-clause-ok
returns-clause-ok c =
    let same : length c.append_child_of.new.nodes ≡ length c.deref_mut.result.now = omega arith in
    let long : length c.append_child_of.new.nodes ≡ c.create_fragment.new.nodes.len = same ∙ c.deref_mut.ensures.len in
    let number : c.in_ok-id.id ≡ length c.args.nodes.now.items = omega (arith, c.in_ok-id.ensures.adds.number) in
    let known : c.args.t < length c.args.nodes.now.items = omega (arith, c.requires.target_known) in
    subst (λ (nodes : List TreeNode). AppendedTemplate c.args.nodes.now.items nodes c.args.t c.args.content) (sym (with_items_is c.create_fragment.new.nodes c.append_child_of.new.nodes long))
    (appended_template c.args.nodes.now.items c.push_alone.new.nodes.items c.create_fragment.new.nodes.items c.append_child_of.new.nodes c.args.t c.in_ok-id.id c.args.content c.requires.linked number known c.in_ok-id.ensures.ok c.in_ok-create_fragment.ensures.ok
    (subst (λ (nodes : List TreeNode). Moved nodes c.append_child_of.new.nodes (end_of c.args.t) c.in_ok-id.id) c.deref_mut.ensures.value
    (moved_one c.deref_mut.result.now c.append_child_of.new.nodes (end_of c.args.t) c.in_ok-id.id c.append_child_of.ensures)))
