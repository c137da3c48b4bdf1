use Rattle.std.proofs.Common.{length, ◌+◌, arith}
use Rattle.std.proofs.lemmas.Grind.{common_steps}
use Rattle.dom_trees.specs.NewNodes.{element_with}
use Rattle.dom_markup.proofs.rows.LateLemmas.{texts_commute}
use Rattle.dom_markup.proofs.document.late_texts.DeferredTexts.append_template.Goals as goal

pub limit_of-requires : goal.limit_of-requires
limit_of-requires c =
    let old = c.self.inside in
    let commutes = texts_commute old.late.items old.tree c.self.invariant in
    grind (arith, common_steps, commutes.as_many, commutes.allowed c.args.parent.now)

pub returns-clause-grows : goal.returns-clause-grows
returns-clause-grows c =
    let old = c.self.inside in
    let commutes = texts_commute old.late.items old.tree c.self.invariant in
    grind (arith, common_steps, commutes.as_many, commutes.allowed c.args.parent.now, commutes.template c.args.parent.now (element_with c.args.name c.args.attrs (length old.tree.content + 1)))
