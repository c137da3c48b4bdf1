use Rattle.std.proofs.Common.{sym}
use Rattle.dom_select.specs.MatcherIters.{matches_of}
use Rattle.dom_selection.proofs.SelectLemmas.{will_select}
use Rattle.dom_selection.proofs.selection.Selection.select_matcher_iter.Goals as goal

pub returns : goal.returns
returns c =
    will_select c.args.matcher.now c.args.self.now c.nodes.result.now c.in-Some.tree (matches_of c.in_ok-matches.matches)
    (sym c.in-Some.ensures.tree) c.nodes.ensures.nodes c.in_ok-matches.ensures.tree c.in_ok-matches.ensures.selected
