use Rattle.std.proofs.Common.{◌∙◌, arith, string_bytes, sym}
use Rattle.std.proofs.lemmas.Bool.{eqb-false, eqb-true}
use Rattle.dom_md.proofs.SpacedLemmas.{spaced-end}
use Rattle.dom_md.proofs.formatting.steps.push_spaced.Goals as goal

pub loop-rest-smaller : goal.loop-rest-smaller
loop-rest-smaller c =
    let some = eqb-false _ 0 (sym c.is_empty.ensures ∙ c.loop-rest-test.true) in
    let less = c.in_ok-rest.ensures.shorter in
    let cut = c.range_from.ensures.len in
    omega (arith, some, less, cut)

pub returns : goal.returns
returns c =
    let none = eqb-true _ 0 (sym c.is_empty.ensures ∙ c.loop-rest-test.false) in
    spaced-end (string_bytes c.args.text.now) (string_bytes c.loop-rest.text) c.loop-rest.rest.now c.args.row.now none c.loop-rest.invariant.whole
