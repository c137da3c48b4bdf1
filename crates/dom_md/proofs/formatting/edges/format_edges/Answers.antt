use Rattle.std.proofs.Common.{◌≡◌, ◌∷◌, ap, arith, length, string_bytes}
use Rattle.dom_links.specs.Forest.{forest_of}
use Rattle.dom_md.proofs.EdgeEventLemmas.{begun, ended, stepped}
use Rattle.dom_md.proofs.formatting.edges.format_edges.Goals as goal

pub loop-text-init : goal.loop-text-init
loop-text-init c = begun (forest_of c.args.nodes.now) c.args.edges (string_bytes c.new-text.result) c.new-text.ensures.bytes

pub loop-text-preserved : goal.loop-text-preserved
loop-text-preserved c = stepped (forest_of c.args.nodes.now) c.loop-text.edges c.next.new.self c.in-Some.edge _ _ _ (rw c.in-Some.is at c.in_ok-edge.ensures) c.in_ok-format_edge.ensures c.loop-text.invariant

pub loop-text-smaller : goal.loop-text-smaller
loop-text-smaller c =
    let taken : c.loop-text.edges ≡ c.in-Some.edge ∷ c.next.new.self = rw c.in-Some.is at c.in_ok-edge.ensures in
    omega (arith, ap length taken)

pub returns : goal.returns
returns c = ended (forest_of c.args.nodes.now) c.loop-text.edges _ _ (rw c.in_default.is at c.in_ok-edge.ensures) c.loop-text.invariant
