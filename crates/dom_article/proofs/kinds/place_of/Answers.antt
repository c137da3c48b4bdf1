use Rattle.std.proofs.Common.{ℕ, ◌∙◌, add-one, ap, arith, drop, map, refl, sym}
use Rattle.dom_article.specs.Names.{base_in}
use Rattle.dom_article.proofs.FoldLemmas.{base_here, base_none, base_on, behind, named_base}
use Rattle.dom_article.proofs.kinds.place_of.Goals as goal

pub returns-then-is_named_at : goal.returns-then-is_named_at
returns-then-is_named_at c =
    base_here c.args.bases.now c.loop-at.at c.args.name.now _ (sym c.is_named_at.ensures ∙ c.if-is_named_at.true) refl ∙ c.loop-at.invariant

pub loop-at-preserved : goal.loop-at-preserved
loop-at-preserved c =
    ap (λ (k : ℕ). base_in (drop k (map named_base c.args.bases.now)) c.args.name.now) (add-one c.loop-at.at)
    ∙ (base_on c.args.bases.now c.loop-at.at c.args.name.now (omega arith) (sym c.is_named_at.ensures ∙ c.if-is_named_at.false) ∙ c.loop-at.invariant)

pub returns : goal.returns
returns c = base_none c.args.bases.now ∙ (sym (ap (λ es. base_in es c.args.name.now) (behind named_base c.args.bases.now c.loop-at.at (omega arith))) ∙ c.loop-at.invariant)
