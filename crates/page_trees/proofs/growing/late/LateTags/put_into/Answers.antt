use Rattle.std.proofs.Common.{sym, ◌∙◌}
use Rattle.page_trees.proofs.CompletedTrees.{nothing_left, puts_last, skips_last}
use Rattle.page_trees.proofs.growing.late.LateTags.put_into.Goals as goal

pub loop-late-preserved-in-Continue-1 : goal.loop-late-preserved-in-Continue-1
loop-late-preserved-in-Continue-1 c =
    puts_last _ _ _ _ _ c.in-Some.ensures.items (sym c.has.ensures ∙ c.if-not-has.true) c.in_ok-put_into.ensures.ok ∙ c.loop-late.invariant

pub loop-late-preserved : goal.loop-late-preserved
loop-late-preserved c = skips_last _ _ _ _ c.in-Some.ensures.items (sym c.has.ensures ∙ c.if-not-has.false) ∙ c.loop-late.invariant

pub returns-clause-ok : goal.returns-clause-ok
returns-clause-ok c = sym (nothing_left _ _ _ _ c.in_default.ensures.cases.0 c.in_default.ensures.items c.in_default.ensures.rest) ∙ c.loop-late.invariant
