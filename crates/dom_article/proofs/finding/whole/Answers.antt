use Rattle.std.proofs.Common.{◌≡◌, ◌∙◌, List, Bool, true, false, sym, subst}
use Rattle.dom_article.specs.Texts.{keeps_text}
use Rattle.dom_article.proofs.FoundLemmas.{article_of_page}
use Rattle.dom_article.proofs.ShownLemmas.{shows_none}
use Rattle.dom_article.proofs.finding.whole.Goals as goal

pub returns-then-not-keeps_text : goal.returns-then-not-keeps_text
returns-then-not-keeps_text c =
    shows_none c.args.tree.now c.in_ok-kept.kept.items c.in_ok-kept.ensures
    (subst (λ (ms : List Bool). keeps_text c.args.tree.now ms ≡ false) c.deref.ensures.value (sym c.keeps_text.ensures ∙ c.if-not-keeps_text.true))

pub returns : goal.returns
returns c =
    article_of_page c.args.tree.now c.in_ok-kept.kept.items c.in_ok-kept.ensures.extract
    (subst (λ (ms : List Bool). keeps_text c.args.tree.now ms ≡ true) c.deref.ensures.value (sym c.keeps_text.ensures ∙ c.if-not-keeps_text.false))
