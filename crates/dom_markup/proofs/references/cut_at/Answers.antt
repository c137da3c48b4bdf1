use Rattle.std.proofs.Common.{ap, ◌∙◌, arith}
use Rattle.std.specs.Prelude.{unwrap_or}
use Rattle.std.proofs.lemmas.Bool.{eqb-true}
use Rattle.std.proofs.lemmas.Str.{IsCharBoundary-after_ascii}
use Rattle.dom_markup.proofs.grammar.ReferenceLemmas.{bare, decoded-first, decoded-shorter, reference-boundary}
use Rattle.dom_markup.proofs.references.cut_at.Goals as goal

pub range_from-after-requires : goal.range_from-after-requires
range_from-after-requires c =
    let found = c.requires in
    λ some. IsCharBoundary-after_ascii c.args.text.now c.args.at c.utf8.text found.0.high (omega (arith, eqb-true _ _ found.1))

pub range_from-requires : goal.range_from-requires
range_from-requires c =
    let is = c.unwrap_or-found.ensures ∙ ap (λ r. unwrap_or r bare) c.reference_at.ensures in
    reference-boundary c.range_from-after.result.now c.unwrap_or-found.result c.range_from-after.utf8 is

pub returns : goal.returns
returns c =
    let found = c.requires in
    let is = c.unwrap_or-found.ensures ∙ ap (λ r. unwrap_or r bare) c.reference_at.ensures in
    record {
      whole = decoded-first c.args.text.now _ _ _ c.args.at c.unwrap_or-found.result found.0 found.1 c.range.ensures.value c.range_from-after.ensures.value is c.range_from.ensures.value;
      shorter = decoded-shorter c.args.text.now _ _ c.args.at _ found.0.high c.range_from-after.ensures.value c.range_from.ensures.value;
    }
