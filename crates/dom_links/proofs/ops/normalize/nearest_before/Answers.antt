use Rattle.std.proofs.Common.{◌∙◌, sym}
use Rattle.dom_links.specs.Forest.{forest_of}
use Rattle.dom_links.proofs.texts.Joining.{PassesCheck, back_found, back_none, back_on, back_starts}
use Rattle.dom_links.proofs.ops.normalize.nearest_before.Goals as goal

pub loop-next-init : goal.loop-next-init
loop-next-init c = back_starts (forest_of c.args.nodes.now) c.args.id c.prev_sibling_id-next.result c.requires.forest c.prev_sibling_id-next.ensures

pub returns-then-not-is_empty_text : goal.returns-then-not-is_empty_text
returns-then-not-is_empty_text c = back_found (forest_of c.args.nodes.now) c.args.id c.in-Some.at c.loop-next.next c.loop-next.invariant c.in-Some.is (sym c.is_empty_text.ensures ∙ c.if-not-is_empty_text.true)

pub loop-next-smaller : goal.loop-next-smaller
loop-next-smaller c = PassesCheck.fewer (back_on (forest_of c.args.nodes.now) c.args.id c.in-Some.at c.loop-next.next _ c.requires.forest c.loop-next.invariant c.in-Some.is (sym c.is_empty_text.ensures ∙ c.if-not-is_empty_text.false) (c.get-next.ensures ∙ c.node_at.ensures.prev_is))

pub loop-next-preserved : goal.loop-next-preserved
loop-next-preserved c = PassesCheck.goes (back_on (forest_of c.args.nodes.now) c.args.id c.in-Some.at c.loop-next.next _ c.requires.forest c.loop-next.invariant c.in-Some.is (sym c.is_empty_text.ensures ∙ c.if-not-is_empty_text.false) (c.get-next.ensures ∙ c.node_at.ensures.prev_is))

pub returns : goal.returns
returns c = back_none (forest_of c.args.nodes.now) c.args.id c.loop-next.next c.loop-next.invariant c.in_default.is
