use Rattle.std.proofs.Common.{sym, ap, ◌∙◌}
use Rattle.dom_links.specs.Forest.{siblings}
use Rattle.dom_links.specs.Lists.{after}
use Rattle.dom_select.proofs.RightLemmas.{row_ends_right, row_on_right}
use Rattle.dom_select.proofs.matcher.has.next_right.Goals as goal

pub returns-then-ends_right : goal.returns-then-ends_right
returns-then-ends_right c = row_ends_right c.args.tree.now c.args.lead c.args.at (sym c.ends_right.ensures ∙ c.if-ends_right.true)

pub returns : goal.returns
returns c =
    row_on_right c.args.tree.now c.args.lead c.args.at _ c.line_laws.ensures (sym c.ends_right.ensures ∙ c.if-ends_right.false) (c.next_sibling_id.ensures ∙ ap (λ forest. after (siblings forest c.args.at) c.args.at) c.nodes.ensures.value)
