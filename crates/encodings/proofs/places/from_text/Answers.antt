use Rattle.std.proofs.Common.{◌∙◌, List, Some, ap, arith, nat_eq, sym, ℕ}
use Rattle.std.specs.List.{starts_with}
use Rattle.encodings.proofs.Cuts.{first_later, first_nowhere, first_passed}
use Rattle.encodings.proofs.places.from_text.Goals as goal

pub loop-i-preserved : goal.loop-i-preserved
loop-i-preserved c =
    let p = λ (rest : List ℕ). starts_with nat_eq rest c.args.text.now in
    sym (first_later p c.args.bytes.now c.loop-i.i (omega arith) (ap p (sym c.behind-rest.ensures) ∙ sym c.if-starts_with.ensures.value)) ∙ c.loop-i.invariant

pub returns-then-starts_with : goal.returns-then-starts_with
returns-then-starts_with c =
    let p = λ (rest : List ℕ). starts_with nat_eq rest c.args.text.now in
    ap (λ rest. Some rest) c.behind-rest.ensures
    ∙ sym (first_passed p c.args.bytes.now c.loop-i.i (omega arith) (ap p (sym c.behind-rest.ensures) ∙ sym c.if-starts_with.ensures.value)) ∙ c.loop-i.invariant

pub returns : goal.returns
returns c = first_nowhere (λ rest. starts_with nat_eq rest c.args.text.now) c.args.bytes.now c.loop-i.i (omega arith) c.loop-i.invariant
