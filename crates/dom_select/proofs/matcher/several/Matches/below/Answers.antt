use Rattle.dom_select.specs.Roots.{root_ids}
use Rattle.dom_select.proofs.SeveralLemmas.{selected_all}
use Rattle.dom_select.proofs.matcher.several.Matches.below.Goals as goal

pub returns-clause-selected : goal.returns-clause-selected
returns-clause-selected c ids h =
    selected_all c.args.tree.now (root_ids c.args.roots) c.args.matcher.now _ ids c.in_ok-first_occurrences.ensures h
