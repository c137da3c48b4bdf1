use Rattle.std.proofs.Common.{sym, ap, ◌∙◌, subst}
use Rattle.dom_links.specs.Forest.{StandsOnce, children_of, siblings}
use Rattle.dom_links.specs.Lists.{after, first}
use Rattle.dom_select.specs.Has.{AreRightOf, right_row}
use Rattle.dom_select.proofs.RightLemmas.{goes_below, goes_beside, right_below, right_beside}
use Rattle.dom_select.proofs.matcher.has.first_right.Goals as goal

pub returns-then-is_sideways : goal.returns-then-is_sideways
returns-then-is_sideways c =
    let once = subst StandsOnce c.nodes.ensures.value c.nodes.ensures.sound.forest.once in
    right_beside c.args.tree.now c.line_laws.ensures once c.args.lead c.args.id _ (goes_beside c.args.lead (sym c.is_sideways.ensures ∙ c.if-is_sideways.true))
    (c.next_sibling_id.ensures ∙ ap (λ forest. after (siblings forest c.args.id) c.args.id) c.nodes.ensures.value)

pub returns : goal.returns
returns c =
    let once = subst StandsOnce c.nodes-2.ensures.value c.nodes-2.ensures.sound.forest.once in
    subst (λ k. AreRightOf c.args.tree.now k c.args.id (right_row c.args.tree.now k c.first_child_id.result)) (sym (goes_below c.args.lead (sym c.is_sideways.ensures ∙ c.if-is_sideways.false) c.requires))
    (right_below c.args.tree.now c.line_laws.ensures once c.args.id _ (c.first_child_id.ensures ∙ ap (λ forest. first (children_of forest c.args.id)) c.nodes-2.ensures.value))
