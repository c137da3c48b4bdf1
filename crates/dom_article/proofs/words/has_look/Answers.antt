use Rattle.std.proofs.Common.{ℕ, ◌∙◌, add-one, ap, arith, drop, map, sym}
use Rattle.dom_article.specs.Words.{has_look}
use Rattle.dom_article.proofs.FoldLemmas.{behind, look_on, shown}
use Rattle.dom_article.proofs.words.has_look.Goals as goal

pub loop-at-preserved : goal.loop-at-preserved
loop-at-preserved c =
    ap (λ (k : ℕ). has_look (drop k (map shown c.args.looks.now)) c.args.text.now c.has_look_at-has.result) (add-one c.loop-at.at)
    ∙ (look_on c.args.looks.now c.loop-at.at c.args.text.now c.loop-at.has c.has_look_at-has.result (omega arith) c.has_look_at-has.ensures ∙ c.loop-at.invariant)

pub returns : goal.returns
returns c = sym (ap (λ es. has_look es c.args.text.now c.loop-at.has) (behind shown c.args.looks.now c.loop-at.at (omega arith))) ∙ c.loop-at.invariant
