use Rattle.std.proofs.Common.{◌∙◌, subst}
use Rattle.dom_select.specs.Descendants.{IsMatch}
use Rattle.dom_select.specs.Selected.{FiltersTo}
use Rattle.dom_links.specs.Lists.{IsDistinct}
use Rattle.dom_select.proofs.SelectionLemmas.{one_walk, selected_below}
use Rattle.dom_select.proofs.matcher.descendants.DescendantMatches.new.Goals as goal

pub returns-clause-selected : goal.returns-clause-selected
returns-clause-selected c ids h =
    let walk = c.descendant_ids_of_it.ensures in
    selected_below c.args.node.tree.now c.args.node.id c.args.matcher.now ids (subst IsDistinct walk.all walk.once)
    (subst (λ ns. FiltersTo (IsMatch c.args.matcher.now c.args.node.tree.now) ns ids) walk.all h)

pub returns-clause-once : goal.returns-clause-once
returns-clause-once c =
    let walk = c.descendant_ids_of_it.ensures in
    walk.all ∙ one_walk c.args.node.tree.now c.args.node.id (subst IsDistinct walk.all walk.once)
