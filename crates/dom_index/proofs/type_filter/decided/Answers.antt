use Rattle.std.proofs.Common.{◌≡◌, Bool, true, false, refl, sym, arith}
use Rattle.std.specs.Prelude.{not}
use Rattle.dom_index.specs.TypeBytes.{IsTypeFilterOf}
use Rattle.dom_index.proofs.TypeFilterLemmas.{met_at, refused_at}
use Rattle.dom_index.proofs.type_filter.decided.Goals as goal

pub returns-then-byte-wanted : goal.returns-then-byte-wanted
returns-then-byte-wanted c = λ compound forest n here some.
    let wanted : IsTypeFilterOf compound c.in_ok-wanted.wanted = rw c.in_ok-wanted.was at some in
    refused_at forest n c.args.byte here.known here.named compound c.in_ok-wanted.wanted wanted
    (λ e. omega (arith, c.if-byte-eq-UNKNOWN.false)) (λ e. omega (arith, c.if-byte-wanted.true))

pub returns : goal.returns
returns c = λ compound forest n here some.
    let wanted : IsTypeFilterOf compound c.in_ok-wanted.wanted = rw c.in_ok-wanted.was at some in
    met_at forest n c.args.byte here.known here.named compound c.in_ok-wanted.wanted wanted
    (omega (arith, c.if-byte-wanted.false)) (not_false c.in_ok-wanted.wanted.is_all c.if-not-wanted.false)
  where
    not_false : (b : Bool) → not b ≡ false → b ≡ true
    not_false true e = refl
    not_false false e = sym e
