use Rattle.std.proofs.Common.{arith}
use Rattle.std.proofs.lemmas.Bool.{eqb-true}
use Rattle.std.proofs.lemmas.Str.{IsCharBoundary-after_ascii}
use Rattle.dom_markup.proofs.grammar.Firsts.{stands_nowhere, first_whole, first_lacks}
use Rattle.dom_markup.proofs.document.scan.split_letter.Goals as goal

pub returns-in_err-at-clause-none : goal.returns-in_err-at-clause-none
returns-in_err-at-clause-none c =
    let none = rw c.as_bytes.ensures.value at c.in_err-at.ensures in
    rw c.from_residual.ensures (stands_nowhere c.args.letter c.args.text.now none)

pub range_from-requires : goal.range_from-requires
range_from-requires c =
    let found = rw c.as_bytes.ensures.value at c.in_ok-at.ensures in
    λ some. IsCharBoundary-after_ascii c.args.text.now c.in_ok-at.at c.utf8.text found.0.high (omega (arith, c.requires, eqb-true _ _ found.1))

pub returns-clause-some : goal.returns-clause-some
returns-clause-some c =
    let found = rw c.as_bytes.ensures.value at c.in_ok-at.ensures in (
      first_lacks c.args.letter c.args.text.now _ c.in_ok-at.at found.0 c.range.ensures.value,
      first_whole c.args.letter c.args.text.now _ _ c.in_ok-at.at found.0 found.1 c.range.ensures.value c.range_from.ensures.value,
    )
