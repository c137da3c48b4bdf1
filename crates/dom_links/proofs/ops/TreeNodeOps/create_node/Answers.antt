use Rattle.std.proofs.Common.{List, subst, arith, rules}
use Rattle.std.proofs.lemmas.Grind.{common_steps}
use Rattle.dom_nodes.specs.declared.node_data.TreeNode.{TreeNode}
use Rattle.dom_links.specs.Forest.{forest_of}
use Rattle.dom_links.specs.Growth.{HasFreeContents}
use Rattle.dom_links.specs.Sound.{Edited}
use Rattle.dom_links.proofs.ops.TreeNodeOps.create_node.Goals as goal

pub returns-clause-makes : goal.returns-clause-makes
returns-clause-makes c =
    let allowed = subst (λ (nodes : List TreeNode). HasFreeContents (forest_of nodes) c.args.content) c.deref.ensures.value c.in_ok-check_contents.ensures in
    let adds = c.in_ok-id.ensures.adds in
    record {
      made = Edited.made c.in_ok-id.ensures.ok;
      number = adds.number;
      allowed = allowed;
      err = search rules;
      cause = search rules;
      sound = record {
        arena = Edited.linked c.in_ok-id.ensures.ok;
        forest = Edited.kept c.in_ok-id.ensures.ok allowed c.requires.forest;
        numbered = omega (arith, adds.grown, adds.number);
      };
    }

pub returns-in_err-check_contents-clause-plain : goal.returns-in_err-check_contents-clause-plain
returns-in_err-check_contents-clause-plain c = grind (arith, common_steps)

pub returns-in_err-id-clause-makes : goal.returns-in_err-id-clause-makes
returns-in_err-id-clause-makes c = grind (arith, common_steps)
