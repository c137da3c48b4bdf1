use Rattle.dom_selectors.specs.declared.syntax.Part.{Part}
use Rattle.dom_select.proofs.MeaningLemmas.{one_part, parts_known, parts_unknown, passes_known}
use Rattle.dom_select.proofs.matcher.matches.has_type.Goals as goal

pub returns-in-Some : goal.returns-in-Some
returns-in-Some c =
    let part = Part.«Type» c.args.name.now in
    parts_known _ _ _ c.in-Some.found.now.content c.in-Some.ensures.content_is _
    (one_part part c.args.tree.now c.args.id.now c.is_named_node.result (passes_known part c.args.tree.now c.args.id.now c.in-Some.found.now.content c.is_named_node.result c.in-Some.ensures.content_is c.is_named_node.ensures))

pub returns-in-None : goal.returns-in-None
returns-in-None c = parts_unknown _ _ _ c.in-None.ensures
