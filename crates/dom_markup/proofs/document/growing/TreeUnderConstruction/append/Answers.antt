use Rattle.std.proofs.Common.{arith}
use Rattle.std.proofs.lemmas.Grind.{common_steps}
use Rattle.dom_markup.proofs.rows.GrowingLemmas.{lists_commute}
use Rattle.dom_markup.proofs.document.growing.TreeUnderConstruction.append.Goals as goal

pub append-requires-clause-may : goal.append-requires-clause-may
append-requires-clause-may c =
    let old = c.self.inside in
    let commutes = lists_commute old.attrs.items old.waiting.items _ old.tree c.self.invariant in
    grind (arith, common_steps, commutes.as_many, commutes.allowed c.args.parent.now)

pub returns : goal.returns
returns c =
    let old = c.self.inside in
    let commutes = lists_commute old.attrs.items old.waiting.items _ old.tree c.self.invariant in
    grind (arith, common_steps, commutes.as_many, commutes.child c.args.parent.now c.args.content)
