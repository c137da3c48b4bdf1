use Rattle.std.proofs.Common.{◌∙◌, ◌++◌, ap, sym, string_bytes}
use Rattle.dom_links.specs.Forest.{forest_of}
use Rattle.dom_links.proofs.texts.Joining.{PassesCheck, over_on, over_starts}
use Rattle.dom_links.proofs.ops.normalize.join_after.Goals as goal

pub loop-next-init : goal.loop-next-init
loop-next-init c = over_starts (forest_of c.args.nodes.now) c.args.id (string_bytes c.args.joined.now) c.next_sibling_id-next.result c.requires.forest c.next_sibling_id-next.ensures

pub loop-next-smaller : goal.loop-next-smaller
loop-next-smaller c =
    PassesCheck.fewer
    (over_on (forest_of c.args.nodes.now) c.args.id c.in-Some.at (string_bytes c.args.joined.now) (string_bytes c.loop-next.joined) (string_bytes c.push_str.new.self) c.loop-next.next _ c.requires.forest c.loop-next.invariant c.in-Some.is
    (sym c.is_text_at.ensures ∙ c.if-not-is_text_at.false) (c.in_ok-push_str.ensures.bytes ∙ ap (λ t. string_bytes c.loop-next.joined ++ t) c.text_at.ensures) (c.get-next.ensures ∙ c.node_at.ensures.next_is))

pub loop-next-preserved : goal.loop-next-preserved
loop-next-preserved c =
    PassesCheck.goes
    (over_on (forest_of c.args.nodes.now) c.args.id c.in-Some.at (string_bytes c.args.joined.now) (string_bytes c.loop-next.joined) (string_bytes c.push_str.new.self) c.loop-next.next _ c.requires.forest c.loop-next.invariant c.in-Some.is
    (sym c.is_text_at.ensures ∙ c.if-not-is_text_at.false) (c.in_ok-push_str.ensures.bytes ∙ ap (λ t. string_bytes c.loop-next.joined ++ t) c.text_at.ensures) (c.get-next.ensures ∙ c.node_at.ensures.next_is))
