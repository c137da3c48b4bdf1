use Rattle.std.proofs.Common.{sym, ap, ◌∙◌}
use Rattle.dom_links.specs.Forest.{siblings}
use Rattle.dom_links.specs.Lists.{after}
use Rattle.dom_select.proofs.HasLemmas.{tops_alone, tops_first}
use Rattle.dom_select.proofs.matcher.has.first_search_root.Goals as goal

pub returns-then-is_sideways : goal.returns-then-is_sideways
returns-then-is_sideways c = tops_first c.args.tree.now c.line_laws.ensures c.args.lead c.args.id _ (sym c.is_sideways.ensures ∙ c.if-is_sideways.true) (c.next_sibling_id.ensures ∙ ap (λ forest. after (siblings forest c.args.id) c.args.id) c.nodes.ensures.value)

pub returns : goal.returns
returns c = tops_alone c.args.tree.now c.line_laws.ensures c.args.lead c.args.id (sym c.is_sideways.ensures ∙ c.if-is_sideways.false)
