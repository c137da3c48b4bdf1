use Rattle.std.proofs.Common.{refl}
use Rattle.dom_select.proofs.AnswerLemmas.{parts_decide, lists_refuse}
use Rattle.dom_select.proofs.matcher.compounds.CompoundCompoundTest.test.Goals as goal

pub returns-then-not-all-clause-is : goal.returns-then-not-all-clause-is
returns-then-not-all-clause-is c =
    lists_refuse c.args.self.now c.args.x.now.tree.now c.args.x.now.id c.args.nested.now c.requires.known.0 c.are_true-all.result c.are_true-all.ensures c.if-not-all.true

pub returns-clause-is : goal.returns-clause-is
returns-clause-is c =
    parts_decide c.args.self.now c.args.x.now.tree.now c.args.x.now.id c.args.nested.now c.requires.known.0 c.are_true-all.result c.parts_pass.result c.are_true-all.ensures c.if-not-all.false (rw c.deref.ensures.value at c.parts_pass.ensures)

pub returns-in-Some-clause-counted : goal.returns-in-Some-clause-counted
returns-in-Some-clause-counted c = refl

pub returns-then-not-all-clause-counted : goal.returns-then-not-all-clause-counted
returns-then-not-all-clause-counted c = refl

pub returns-clause-counted : goal.returns-clause-counted
returns-clause-counted c = refl

pub parts_pass-requires : goal.parts_pass-requires
parts_pass-requires c = rw c.deref.ensures.value c.requires.known.1
