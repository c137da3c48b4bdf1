use Rattle.std.proofs.Common.{length, ◌+◌, arith}
use Rattle.std.proofs.lemmas.Grind.{common_steps}
use Rattle.dom_trees.specs.NewNodes.{element_with}
use Rattle.dom_markup.proofs.rows.GrowingLemmas.{lists_commute}
use Rattle.dom_markup.proofs.document.growing.TreeUnderConstruction.append_template.Goals as goal

pub append_template-requires : goal.append_template-requires
append_template-requires c =
    let old = c.self.inside in
    let commutes = lists_commute old.attrs.items old.waiting.items _ old.tree c.self.invariant in
    grind (arith, common_steps, commutes.as_many, commutes.allowed c.args.parent.now)

pub returns : goal.returns
returns c =
    let old = c.self.inside in
    let commutes = lists_commute old.attrs.items old.waiting.items _ old.tree c.self.invariant in
    grind (arith, common_steps, commutes.as_many, commutes.template c.args.parent.now (element_with c.args.name c.in-Ok.attrs (length old.tree.content + 1)))
