use Rattle.std.proofs.Common.{sym, ◌∙◌, arith}
use Rattle.page_tokens.proofs.NameLemmas.{halved_at_first, halved_above, halved_below, parted_when_met}
use Rattle.page_tokens.proofs.named_references.Names.first_from.Goals as goal

pub loop-low-init : goal.loop-low-init
loop-low-init c = halved_at_first _ _ _ _ c.args.self.exactly

pub is_below-requires : goal.is_below-requires
is_below-requires c =
    let end = c.loop-low.invariant.end in
    let within = c.args.self.exactly.within in
    let some = c.loop-low-test.true in
    omega arith

pub loop-low-preserved-then-is_below : goal.loop-low-preserved-then-is_below
loop-low-preserved-then-is_below c =
    let some = c.loop-low-test.true in
    halved_above _ _ _ _ _ _ _ c.args.self.exactly c.loop-low.invariant (omega arith) (omega arith) (sym c.is_below.ensures ∙ c.if-is_below.true)

pub loop-low-preserved : goal.loop-low-preserved
loop-low-preserved c =
    let some = c.loop-low-test.true in
    halved_below _ _ _ _ _ _ _ c.args.self.exactly c.loop-low.invariant (omega arith) (omega arith) (sym c.is_below.ensures ∙ c.if-is_below.false)

pub returns : goal.returns
returns c = parted_when_met _ _ _ _ _ _ c.loop-low.invariant c.loop-low-test.false
