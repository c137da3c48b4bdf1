use Rattle.std.proofs.Common.{ℕ, ◌∙◌, add-one, ap, arith, drop, map, sym}
use Rattle.dom_article.specs.Words.{with_words}
use Rattle.dom_article.proofs.FoldLemmas.{behind, word_on, entry}
use Rattle.dom_article.proofs.words.add_words.Goals as goal

pub loop-at-preserved : goal.loop-at-preserved
loop-at-preserved c =
    ap (λ (k : ℕ). with_words (drop k (map entry c.args.words.now)) c.args.text.now c.args.first c.add_word_at.new.found) (add-one c.loop-at.at)
    ∙ (word_on c.args.words.now c.loop-at.at c.args.text.now c.args.first c.loop-at.found c.add_word_at.new.found (omega arith) c.add_word_at.ensures ∙ c.loop-at.invariant)

pub returns : goal.returns
returns c = sym (ap (λ es. with_words es c.args.text.now c.args.first c.loop-at.found) (behind entry c.args.words.now c.loop-at.at (omega arith))) ∙ c.loop-at.invariant
