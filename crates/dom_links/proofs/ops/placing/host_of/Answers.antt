use Rattle.std.proofs.Common.{arith, ◌≡◌, ◌<◌, length, sym, ◌∙◌, below_more}
use Rattle.std.proofs.lemmas.Bool.{eqb-true, eqb-false}
use Rattle.std.proofs.lemmas.Option.{same_Some, none-some}
use Rattle.dom_links.specs.Forest.{forest_of}
use Rattle.dom_links.proofs.moves.Cuts.{length-contents}
use Rattle.dom_links.proofs.forest.Climbs.{holder_found, holder_passed, contents_at-known}
use Rattle.dom_links.proofs.ops.placing.host_of.Goals as goal
use Rattle.dom_links.proofs.ops.placing.host_of.Goals.{in-Some-template_contents+else-eq, in_default-template_contents}

pub returns-then-eq : goal.returns-then-eq
returns-then-eq c =
    let here : c.loop-node.node-index < length c.args.nodes.now = omega arith in
    let same : c.in-Some-template_contents.contents ≡ c.args.n = eqb-true c.in-Some-template_contents.contents c.args.n (sym c.eq.ensures ∙ c.if-eq.true) in
    holder_found (forest_of c.args.nodes.now) c.args.nodes.now c.loop-node.node-index c.in-Some-template_contents.contents c.args.n c.node-item.result c.requires.linked here c.node-item.is (sym c.template_contents.ensures ∙ c.in-Some-template_contents.is) same

pub loop-node-preserved : goal.loop-node-preserved
loop-node-preserved c =
    let here : c.loop-node.node-index < length c.args.nodes.now = omega arith in
    below_more _ _ c.loop-node.invariant
    (holder_passed (forest_of c.args.nodes.now) c.args.nodes.now c.loop-node.node-index c.args.n c.node-item.result c.requires.linked here c.node-item.is
    (λ holds. elim c.match-template_contents.branch [
      | in-Some-template_contents+else-eq w ↦ (let same : w.in-Some-template_contents.contents ≡ c.args.n = same_Some _ _ (sym w.in-Some-template_contents.is ∙ c.template_contents.ensures ∙ holds) in
          eqb-false w.in-Some-template_contents.contents c.args.n (sym w.eq.ensures ∙ w.if-eq.false) same)
      | in_default-template_contents w ↦ none-some _ (sym w.in_default-template_contents.is ∙ c.template_contents.ensures ∙ holds)
    ]))

pub returns : goal.returns
returns c = λ m holds.
    let known = contents_at-known (forest_of c.args.nodes.now) m c.args.n holds in
    let long = length-contents (forest_of c.args.nodes.now) c.args.nodes.now c.requires.linked.links in
    c.loop-node.invariant m (omega arith) holds
