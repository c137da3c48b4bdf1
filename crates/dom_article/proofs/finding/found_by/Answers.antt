use Rattle.std.proofs.Common.{Option, None, ◌∙◌, refl, subst, sym}
use Rattle.std.specs.Prelude.{MatchOption}
use Rattle.dom_article.specs.Chosen.{Starts}
use Rattle.dom_article.specs.Found.{IsChosen}
use Rattle.dom_article.specs.declared.choosing.Choice.{Choice}
use Rattle.dom_article.proofs.finding.found_by.Goals as goal
use Rattle.dom_article.proofs.finding.found_by.Goals.{then-is_last, else-is_last}

pub returns-in_default : goal.returns-in_default
returns-in_default c =
    let page = c.args.page.now in
    let round = c.in_ok-round.round in
    record {
      round = round;
      is_round = c.in_ok-round.ensures;
      nowhere = subst (λ (o : Option Choice). MatchOption o (Starts page round None) (λ chosen. IsChosen page round chosen.root)) c.in_default.is c.in_ok-choice.ensures;
    }

pub returns : goal.returns
returns c =
    let page = c.args.page.now in
    let round = c.in_ok-round.round in
    let choice = c.in-Some.choice in
    let chosen : IsChosen page round choice.root =
    subst (λ (o : Option Choice). MatchOption o (Starts page round None) (λ chosen. IsChosen page round chosen.root)) c.in-Some.is c.in_ok-choice.ensures in
    record {
      round = round;
      is_round = c.in_ok-round.ensures;
      chosen = subst (IsChosen page round) (sym c.in_ok-found.ensures) chosen;
      enough = c.is_enough-is_last.ensures;
      sure = elim c.if-is_last.branch [
        | then-is_last w ↦ w.found-is ∙ rw w.if-is_last.true refl
        | else-is_last w ↦ w.found-is ∙ rw w.if-is_last.false refl
      ];
    }
