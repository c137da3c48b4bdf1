use Rattle.std.proofs.Common.{arith}
use Rattle.std.proofs.lemmas.Grind.{common_steps}
use Rattle.dom_markup.proofs.rows.LateLemmas.{texts_commute}
use Rattle.dom_markup.proofs.document.late_texts.DeferredTexts.append.Goals as goal

pub limit_of-requires : goal.limit_of-requires
limit_of-requires c =
    let old = c.self.inside in
    let commutes = texts_commute old.late.items old.tree c.self.invariant in
    grind (arith, common_steps, commutes.as_many, commutes.allowed c.args.parent.now)

pub returns-clause-grows : goal.returns-clause-grows
returns-clause-grows c =
    let old = c.self.inside in
    let commutes = texts_commute old.late.items old.tree c.self.invariant in
    grind (arith, common_steps, commutes.as_many, commutes.allowed c.args.parent.now, commutes.child c.args.parent.now c.args.content)
