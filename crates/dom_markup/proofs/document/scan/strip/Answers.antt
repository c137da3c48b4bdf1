use Rattle.std.proofs.Common.{◌∙◌, ap, sym, arith, length, List, ℕ, get_or}
use Rattle.std.proofs.lemmas.Str.{IsCharBoundary-after_ascii}
use Rattle.dom_markup.proofs.document.scan.strip.Goals as goal

pub range_from-requires : goal.range_from-requires
range_from-requires c =
    let is = c.as_bytes.ensures.value in
    λ some. IsCharBoundary-after_ascii c.args.text.now 0 c.utf8.text (omega (arith, c.in-len1-up.len_at_least, ap length is))
    (omega (arith, c.requires, sym (ap (λ (t : List ℕ). get_or t 0 0) is) ∙ c.if-first-letter.false))
