use Rattle.std.proofs.Common.{◌≡◌, ◌∙◌, ap, false, sym, true}
use Rattle.dom_article.specs.Words.{has_capital, no_words, scan}
use Rattle.dom_article.proofs.WordLemmas.{lowered_same}
use Rattle.dom_article.proofs.words.Words.find.Goals as goal

pub returns-then-not-has_capital-clause-found : goal.returns-then-not-has_capital-clause-found
returns-then-not-has_capital-clause-found c =
    let none : has_capital c.args.text.now ≡ false = ap has_capital (sym c.as_bytes-bytes.ensures.value) ∙ (sym c.has_capital.ensures ∙ c.if-not-has_capital.true) in
    c.scan.ensures ∙ ap (λ ks. scan true 0 ks no_words) (c.as_bytes-bytes.ensures.value ∙ sym (lowered_same c.args.text.now false none))
