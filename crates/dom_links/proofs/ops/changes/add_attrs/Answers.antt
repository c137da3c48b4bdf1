use Rattle.std.proofs.Common.{rules, sym, ◌∙◌}
use Rattle.std.proofs.lemmas.Result.{on_ok_weaker}
use Rattle.dom_nodes.specs.Changes.{with_attrs, with_missing}
use Rattle.dom_links.proofs.forest.Changing.{written, unknown, element_here, keeps_attrs}
use Rattle.dom_links.proofs.ops.changes.add_attrs.Goals as goal

pub returns-then-at-nodes-clause-ok : goal.returns-then-at-nodes-clause-ok
returns-then-at-nodes-clause-ok c = on_ok_weaker c.add_attrs_if_missing.result (λ is. written c.args.nodes.now c.value-at.result c.args.x c.add_attrs_if_missing.new.self c.index-nodes-at.result (with_attrs (with_missing c.args.attrs)) (keeps_attrs (with_missing c.args.attrs)) c.requires (search rules) c.value-at.ensures.number is) c.add_attrs_if_missing.ensures.ok

pub returns-then-at-nodes-clause-no_element : goal.returns-then-at-nodes-clause-no_element
returns-then-at-nodes-clause-no_element c none = c.add_attrs_if_missing.ensures.no_element (sym (element_here c.args.nodes.now c.value-at.result c.args.x c.index-nodes-at.result c.requires.arena (search rules) c.value-at.ensures.number) ∙ none)

pub returns-else-at-nodes-clause-ok : goal.returns-else-at-nodes-clause-ok
returns-else-at-nodes-clause-ok c = unknown c.args.nodes.now c.value-at.result c.args.x (with_attrs (with_missing c.args.attrs)) (keeps_attrs (with_missing c.args.attrs)) c.requires (search rules) c.value-at.ensures.number
