use Rattle.std.proofs.Common.{OnOk, rules, subst, arith}
use Rattle.std.proofs.lemmas.Grind.{common_steps}
use Rattle.dom_links.specs.Growth.{HasFreeContents}
use Rattle.dom_trees.proofs.tree.Tree.create_node.Goals as goal

pub returns : goal.returns
returns c = record {
  ok = search rules;
  number = grind (arith, common_steps);
  allowed = subst (λ forest. OnOk c.create_node.result (HasFreeContents forest c.args.content)) c.self.view_is c.create_node.ensures.makes.allowed;
  err = search rules;
  cause = search rules;
}
