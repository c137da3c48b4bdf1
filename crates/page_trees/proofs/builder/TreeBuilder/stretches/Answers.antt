use Rattle.std.proofs.Common.{arith, subst, sym}
use Rattle.std.specs.Str.{IsCharBoundary, IsUtf8}
use Rattle.std.proofs.lemmas.Str.{IsUtf8-drop}
use Rattle.std.proofs.lemmas.Str.Pattern.{split_parts}
use Rattle.page_trees.proofs.TextPieces.{take_last, take_to_null}
use Rattle.page_trees.proofs.builder.TreeBuilder.stretches.Goals as goal

pub loop-front-preserved : goal.loop-front-preserved
loop-front-preserved c =
    let rest = c.loop-front.rest.now in
    let cut = rw c.in-Some.is at (split_parts 0 rest c.split_once.result c.split_once.ensures.cases (omega arith)) in
    let at = c.in-Some.ensures.cases in
    record {
      utf8 = subst IsUtf8 (sym at.4) (IsUtf8-drop rest at.1 c.loop-front.invariant.utf8 (subst (IsCharBoundary rest) (sym at.2.1.ends) at.2.1.after));
      limits = λ within. c.loop-front.invariant.limits (c.stretch.ensures.limits (c.run.ensures.limits within));
      rule = take_to_null _ rest c.in-Some.front.now c.in-Some.after.now _ _ _ _ c.loop-front.invariant.rule cut.0 cut.1 c.stretch.ensures.rule c.run.ensures.rule c.stretch.ensures.limits c.run.ensures.limits;
    }

pub returns-clause-rule : goal.returns-clause-rule
returns-clause-rule c =
    let rest = c.loop-front.rest.now in
    let none = rw c.in_default.is at (split_parts 0 rest c.split_once.result c.split_once.ensures.cases (omega arith)) in
    take_last _ rest _ _ _ c.loop-front.invariant.rule none c.stretch-2.ensures.limits c.stretch-2.ensures.rule
