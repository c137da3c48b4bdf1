use Rattle.std.proofs.Common.{◌≡◌, ◌∙◌, ◌∷◌, List, ap, arith, drop, get_or, length, sym, ℕ}
use Rattle.std.proofs.lemmas.Bool.{ne_eqb}
use Rattle.std.proofs.lemmas.Str.{IsCharBoundary-after_ascii}
use Rattle.calm_pages.specs.Calm.{begins_line}
use Rattle.dom_clean.proofs.values.strip_line.Goals as goal

pub range_from-requires : goal.range_from-requires
range_from-requires c =
    let is : c.args.text.now ≡ c.in-Some.first.now ∷ c.in-Some.field-0-1.now = sym c.as_bytes.ensures.value ∙ c.in-Some.ensures.cases.0 in
    λ some. IsCharBoundary-after_ascii c.args.text.now 0 c.utf8.text (omega (arith, ap length is)) (omega (arith, ap (λ (t : List ℕ). get_or t 0 0) is, c.if-first-ne10.false))

pub returns-then-first-ne10 : goal.returns-then-first-ne10
returns-then-first-ne10 c = ap begins_line (sym c.as_bytes.ensures.value ∙ c.in-Some.ensures.cases.0) ∙ ne_eqb c.in-Some.first.now 10 (λ is. absurd (c.if-first-ne10.true is))

pub returns : goal.returns
returns c =
    let is : c.args.text.now ≡ c.in-Some.first.now ∷ c.in-Some.field-0-1.now = sym c.as_bytes.ensures.value ∙ c.in-Some.ensures.cases.0 in
    is ∙ ap (λ b. b ∷ c.in-Some.field-0-1.now) c.if-first-ne10.false ∙ ap (λ (l : List ℕ). 10 ∷ l) (sym (c.range_from.ensures.value ∙ ap (drop 1) is))
