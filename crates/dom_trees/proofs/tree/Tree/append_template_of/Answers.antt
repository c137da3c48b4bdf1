use Rattle.std.proofs.Common.{arith}
use Rattle.std.proofs.lemmas.Grind.{common_steps}
use Rattle.dom_trees.proofs.tree.Tree.append_template_of.Goals as goal

pub returns-in_default-clause-edits : goal.returns-in_default-clause-edits
returns-in_default-clause-edits c = grind (arith, common_steps)

pub append_template_of-requires-clause-target_known : goal.append_template_of-requires-clause-target_known
append_template_of-requires-clause-target_known c = grind (arith, common_steps)

pub returns-in_err-made-clause-edits : goal.returns-in_err-made-clause-edits
returns-in_err-made-clause-edits c = grind (arith, common_steps)

pub returns-clause-edits : goal.returns-clause-edits
returns-clause-edits c = grind (arith, common_steps)

pub returns-clause-number : goal.returns-clause-number
returns-clause-number c = grind (arith, common_steps)

pub returns-clause-contents : goal.returns-clause-contents
returns-clause-contents c = grind (arith, common_steps)
