use Rattle.std.proofs.Common.{◌≡◌, ◌-◌, ◌∙◌, ap, take, arith}
use Rattle.std.proofs.lemmas.Bool.{eqb-true}
use Rattle.std.proofs.lemmas.Str.{IsCharBoundary-after_ascii}
use Rattle.dom_markup.proofs.grammar.Firsts.{first_whole, first_lacks}
use Rattle.dom_markup.proofs.grammar.ReferenceLemmas.{decoded-front}
use Rattle.dom_markup.proofs.document.scan.split_plain_value.Goals as goal

pub range_from-requires : goal.range_from-requires
range_from-requires c =
    let found = rw c.as_bytes.ensures.value at c.in_ok-at.ensures.first in
    λ some. IsCharBoundary-after_ascii c.args.text.now c.in_ok-at.at c.utf8.text found.0.high (omega (arith, eqb-true _ _ found.1))

pub returns-clause-some : goal.returns-clause-some
returns-clause-some c =
    let found = rw c.as_bytes.ensures.value at c.in_ok-at.ensures.first in (
      first_lacks 34 c.args.text.now _ c.in_ok-at.at found.0 c.range.ensures.value,
      first_whole 34 c.args.text.now _ _ c.in_ok-at.at found.0 found.1 c.range.ensures.value c.range_from.ensures.value,
    )

pub returns-clause-plain : goal.returns-clause-plain
returns-clause-plain c =
    let none = rw c.as_bytes.ensures.value at c.in_ok-at.ensures.other in
    let all : c.in_ok-at.at - 0 ≡ c.in_ok-at.at = omega arith in
    rw (c.range.ensures.value ∙ ap (λ n. take n c.args.text.now) all) (decoded-front c.args.text.now c.in_ok-at.at none)
