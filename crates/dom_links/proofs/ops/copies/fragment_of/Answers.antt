use Rattle.std.proofs.Common.{ℕ, ◌≡◌, Some, length, arith, ap, subst, sym, ◌∙◌}
use Rattle.std.proofs.lemmas.Grind.{common_steps, elements}
use Rattle.dom_nodes.specs.declared.node_data.NodeData.TheVariants.{Fragment}
use Rattle.dom_links.specs.Copies.{copied_below}
use Rattle.dom_links.specs.Forest.{Forest, forest_of}
use Rattle.dom_links.specs.Growth.{lone, with_child}
use Rattle.dom_links.specs.Sound.{IsForest}
use Rattle.dom_links.proofs.moves.Cuts.{length-contents}
use Rattle.dom_links.proofs.copies.CopiedForests.{fragment_kept}
use Rattle.dom_links.proofs.ops.copies.fragment_of.Goals as goal

pub returns-clause-made : goal.returns-clause-made
returns-clause-made c =
    let source = forest_of c.args.other.now in
    let frame = with_child 0 c.args.html (lone Fragment) in
    let first = c.in_ok-nodes.ensures in
    let count : c.in_ok-top.top ≡ 1 = omega (arith, c.in_ok-top.ensures.number, length-contents (forest_of c.in_ok-nodes.nodes.items) c.in_ok-nodes.nodes.items first.sound.arena.links, ap (λ (f : Forest). length f.content) first.made) in
    let framed : forest_of c.append_child_data_of.new.nodes.items ≡ frame = c.in_ok-top.ensures.made ∙ ap (λ k. with_child k c.args.html (forest_of c.in_ok-nodes.nodes.items)) c.root.ensures ∙ ap (with_child 0 c.args.html) first.made in
    c.in_ok-copy_each.ensures.copies.made ∙ ap (λ (k : ℕ). copied_below source (Some k) c.args.ids.now (forest_of c.append_child_data_of.new.nodes.items)) count ∙ ap (copied_below source (Some 1) c.args.ids.now) framed

pub returns-clause-sound : goal.returns-clause-sound
returns-clause-sound c =
    let source = forest_of c.args.other.now in
    let frame = with_child 0 c.args.html (lone Fragment) in
    let first = c.in_ok-nodes.ensures in
    let framed : forest_of c.append_child_data_of.new.nodes.items ≡ frame = c.in_ok-top.ensures.made ∙ ap (λ k. with_child k c.args.html (forest_of c.in_ok-nodes.nodes.items)) c.root.ensures ∙ ap (with_child 0 c.args.html) first.made in
    record {
      arena = c.copy_each.ensures.copies.under_way.linked;
      forest = subst IsForest (sym (returns-clause-made c)) (fragment_kept source c.args.ids.now c.args.html c.requires.other.forest c.in_ok-check_copies.ensures c.requires.html.element (subst IsForest framed c.append_child_data_of.ensures.sound.forest));
      numbered = c.copy_each.ensures.copies.under_way.numbered;
    }

pub returns-in_err-copy_each-clause-cause : goal.returns-in_err-copy_each-clause-cause
returns-in_err-copy_each-clause-cause c = grind (arith, common_steps)

pub copy_each-requires : goal.copy_each-requires
copy_each-requires c = grind (arith, elements)
