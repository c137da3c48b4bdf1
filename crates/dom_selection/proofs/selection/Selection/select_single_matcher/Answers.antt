use Rattle.std.proofs.Common.{ap, sym, subst}
use Rattle.dom_select.specs.MatcherIters.{matches_of}
use Rattle.dom_selection.specs.Selecting.{SelectsFirst}
use Rattle.dom_selection.specs.Selections.{ids_of}
use Rattle.dom_selection.proofs.SelectLemmas.{first_none, first_some}
use Rattle.dom_selection.proofs.selection.Selection.select_single_matcher.Goals as goal

pub returns : goal.returns
returns c =
    subst (SelectsFirst c.args.matcher.now c.args.self.now) (sym c.new-in-None.ensures)
    (first_none c.args.matcher.now c.args.self.now c.in-Some.tree (ids_of c.nodes.result.now) (matches_of c.in_ok-matches.matches) (matches_of c.next.new.self)
    (sym c.in-Some.ensures.tree) (ap ids_of c.nodes.ensures.nodes) c.in_ok-matches.ensures.all c.in_ok-matches.ensures.tree c.in_ok-matches.ensures.selector c.in-None.ensures.steps)

pub returns-in-Some-next : goal.returns-in-Some-next
returns-in-Some-next c =
    subst (SelectsFirst c.args.matcher.now c.args.self.now) (sym c.from.ensures)
    (first_some c.args.matcher.now c.args.self.now c.in-Some.tree (ids_of c.nodes.result.now) (matches_of c.in_ok-matches.matches) (matches_of c.next.new.self) c.in-Some-next.node
    (sym c.in-Some.ensures.tree) (ap ids_of c.nodes.ensures.nodes) c.in_ok-matches.ensures.all c.in_ok-matches.ensures.tree c.in_ok-matches.ensures.selector c.in-Some-next.ensures.steps)
