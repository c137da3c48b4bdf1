use Rattle.std.proofs.Common.{◌≡◌, List, ap, arith, sym, subst, ◌∙◌}
use Rattle.dom_nodes.specs.declared.node_data.TreeNode.{TreeNode}
use Rattle.dom_links.specs.Forest.{IsArenaOf, StandsOnce, forest_of}
use Rattle.dom_links.specs.Growth.{lone, with_node}
use Rattle.dom_links.specs.Sound.{Edited, IsForest}
use Rattle.dom_links.proofs.forest.Appends.{empty_arena, empty_forest, lone_forest}
use Rattle.dom_links.proofs.ops.create.create_root.Goals as goal

pub push_alone-requires : goal.push_alone-requires
push_alone-requires c = record { linked = subst (λ (nodes : List TreeNode). IsArenaOf (forest_of nodes) nodes) (sym c.new-nodes.ensures.items) empty_arena }

pub returns-clause-sound : goal.returns-clause-sound
returns-clause-sound c =
    let made : forest_of c.push_alone.new.nodes.items ≡ lone c.args.content = Edited.made c.in_ok-push_alone.ensures.ok ∙ ap (λ nodes. with_node c.args.content (forest_of nodes)) c.new-nodes.ensures.items ∙ ap (with_node c.args.content) empty_forest in
    let linked = Edited.linked c.in_ok-push_alone.ensures.ok in
    record {
      arena = linked;
      forest = subst IsForest (sym made) (lone_forest c.args.content c.requires (subst StandsOnce made linked.once));
      numbered = omega (arith, c.in_ok-push_alone.ensures.adds.grown, c.new-nodes.ensures.len);
    }
