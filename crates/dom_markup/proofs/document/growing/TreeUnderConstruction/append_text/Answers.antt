use Rattle.std.proofs.Common.{arith}
use Rattle.std.proofs.lemmas.Grind.{common_steps}
use Rattle.dom_trees.specs.NewNodes.{text_node}
use Rattle.dom_markup.proofs.rows.GrowingLemmas.{lists_commute}
use Rattle.dom_markup.proofs.document.growing.TreeUnderConstruction.append_text.Goals as goal

pub append_text-requires : goal.append_text-requires
append_text-requires c =
    let old = c.self.inside in
    let commutes = lists_commute old.attrs.items old.waiting.items _ old.tree c.self.invariant in
    grind (arith, common_steps, commutes.as_many, commutes.allowed c.args.parent.now)

pub returns-in-Ok : goal.returns-in-Ok
returns-in-Ok c =
    let old = c.self.inside in
    let commutes = lists_commute old.attrs.items old.waiting.items _ old.tree c.self.invariant in
    grind (arith, common_steps, commutes.as_many, commutes.child c.args.parent.now (text_node c.args.text.now))

pub returns-in-Err : goal.returns-in-Err
returns-in-Err c =
    let old = c.self.inside in
    grind (arith, common_steps, (lists_commute old.attrs.items old.waiting.items _ old.tree c.self.invariant).as_many)
