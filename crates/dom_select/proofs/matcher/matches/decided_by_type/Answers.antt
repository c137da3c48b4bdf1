use Rattle.std.proofs.Common.{sym, ◌∙◌}
use Rattle.dom_select.proofs.types.TypeLemmas.{ruled_out, type_decides}
use Rattle.dom_select.proofs.matcher.matches.decided_by_type.Goals as goal

pub returns-then-is_empty : goal.returns-then-is_empty
returns-then-is_empty c = type_decides c.in_ok-name.name.now c.args.first.now c.args.steps.now c.args.node.now c.is_named_node.result (sym c.is_empty.ensures ∙ c.if-is_empty.true) c.in_ok-name.ensures c.is_named_node.ensures

pub returns : goal.returns
returns c = ruled_out c.in_ok-name-2.name.now c.args.first.now c.args.steps.now c.args.node.now c.is_named_node-2.result c.in_ok-name-2.ensures c.is_named_node-2.ensures c.if-is_named_node.false
