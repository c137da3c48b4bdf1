use Rattle.std.proofs.Common.{Option, subst, sym}
use Rattle.std.specs.Prelude.{MatchOption}
use Rattle.dom_article.specs.Found.{FindsNothing, IsFoundBy, IsStep, nothing, something}
use Rattle.dom_article.specs.declared.finding.Found.{Found}
use Rattle.dom_article.proofs.finding.after_round.Goals as goal

pub returns-in_default : goal.returns-in_default
returns-in_default c =
    nothing (subst (λ (o : Option Found). MatchOption o (FindsNothing c.args.page.now c.args.rules) (λ found. IsFoundBy c.args.page.now c.args.rules found)) c.in_default.is c.in_ok-found.ensures)

pub returns : goal.returns
returns c =
    let found = c.in-Some.found in
    let is : IsFoundBy c.args.page.now c.args.rules found =
    subst (λ (o : Option Found). MatchOption o (FindsNothing c.args.page.now c.args.rules) (λ found. IsFoundBy c.args.page.now c.args.rules found)) c.in-Some.is c.in_ok-found.ensures in
    subst (λ (taken : Option Found). IsStep c.args.page.now c.args.rules c.args.taken (record { taken = taken; is_last = found.is_enough })) (sym c.better.ensures) (something found is)
