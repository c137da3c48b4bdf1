use Rattle.std.proofs.Common.{sym, ap, ◌∙◌}
use Rattle.dom_links.specs.Forest.{siblings}
use Rattle.dom_links.specs.Lists.{after}
use Rattle.dom_select.proofs.HasLemmas.{tops_last, tops_next}
use Rattle.dom_select.proofs.matcher.has.next_search_root.Goals as goal

pub returns-then-is_sideways : goal.returns-then-is_sideways
returns-then-is_sideways c = tops_next c.args.tree.now c.line_laws.ensures c.args.lead c.args.at _ (sym c.is_sideways.ensures ∙ c.if-is_sideways.true) (c.next_sibling_id.ensures ∙ ap (λ forest. after (siblings forest c.args.at) c.args.at) c.nodes.ensures.value)

pub returns : goal.returns
returns c = tops_last c.args.tree.now c.line_laws.ensures c.args.lead c.args.at (sym c.is_sideways.ensures ∙ c.if-is_sideways.false)
