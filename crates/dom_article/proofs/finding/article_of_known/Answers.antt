use Rattle.std.proofs.Common.{◌≡◌, ◌∙◌, Bool, true, List, Option, sym, subst}
use Rattle.std.specs.Prelude.{IfSome}
use Rattle.dom_article.specs.Found.{IsTaken}
use Rattle.dom_article.specs.Texts.{keeps_text}
use Rattle.dom_article.specs.declared.finding.Found.{Found}
use Rattle.dom_article.proofs.FoundLemmas.{article_of_round}
use Rattle.dom_article.proofs.finding.article_of_known.Goals as goal

pub returns-then-keeps_text : goal.returns-then-keeps_text
returns-then-keeps_text c =
    let tree = c.args.tree.now in
    let page = c.in_ok-page.page in
    let root = c.in-Some.found.root in
    let chosen : IsTaken page root = subst (λ (o : Option Found). IfSome o (λ found. IsTaken page found.root)) c.in-Some.is c.in_ok-found.ensures in
    article_of_round tree page root c.in_ok-kept.kept.items c.in_ok-page.ensures.tree c.in_ok-page.ensures.order c.in_ok-page.ensures.facts chosen c.in_ok-kept.ensures
    (subst (λ (ms : List Bool). keeps_text tree ms ≡ true) c.deref-in-Some-2.ensures.value (sym c.keeps_text.ensures ∙ c.if-keeps_text.true))
