use Rattle.dom_selection.specs.Selecting.{MatchesSomeNode}
use Rattle.dom_selection.proofs.TextLemmas.{asked_text}
use Rattle.dom_selection.proofs.selection.Selection.is.Goals as goal

pub returns-in-Some : goal.returns-in-Some
returns-in-Some c =
    asked_text c.args.selectors.now (λ list. MatchesSomeNode list c.args.self.now) c.is_matcher.result c.in-Some.matcher (rw c.in-Some.is at c.in_ok-matcher.ensures) c.is_matcher.ensures

pub returns-in-None : goal.returns-in-None
returns-in-None c = λ selector stands means. (rw c.in-None.is at c.in_ok-matcher.ensures) selector stands
