use Rattle.std.proofs.Common.{true, ◌≡◌, ◌<◌, ◌+◌, ℕ, refl, sym, ap, ◌∙◌, subst, arith, inl, inr}
use Rattle.dom_links.specs.Forest.{forest_of}
use Rattle.dom_links.specs.Indexes.{counts, index_at, is_from_first}
use Rattle.dom_links.proofs.moves.Cuts.{length-contents}
use Rattle.dom_links.proofs.walks.IndexLemmas.{Counted, counts_is, counts_on, one_counted, index_past, starts}
use Rattle.dom_links.proofs.walks.KnownLemmas.{as_far, never_many}
use Rattle.dom_links.proofs.indexes.index_with.Goals as goal
use Rattle.dom_links.proofs.indexes.index_with.Goals.{then-counts+else-there-gt0, else-counts}

pub returns-in_default-clause-is : goal.returns-in_default-clause-is
returns-in_default-clause-is c = index_past (forest_of c.args.nodes.now) c.args.kind c.args.id.now c.requires.sound.forest c.in_default.ensures

pub loop-next-init : goal.loop-next-init
loop-next-init c =
    let long = length-contents (forest_of c.args.nodes.now) c.args.nodes.now c.requires.sound.arena.links in
    starts (forest_of c.args.nodes.now) c.args.kind c.args.id.now c.in-Some.node.now (is_from_first c.args.kind) c.counted_neighbour-next.result c.requires.sound.forest (omega (arith, c.requires.sound.numbered)) c.in-Some.ensures refl c.counted_neighbour-next.ensures

pub returns-then-there-gt0-clause-is : goal.returns-then-there-gt0-clause-is
returns-then-there-gt0-clause-is c =
    let forest = forest_of c.args.nodes.now in
    let counts_so : counts c.args.kind forest c.args.id.now c.in-Some-next.at ≡ true =
    counts_is forest c.args.kind c.args.id.now c.in-Some-next.at c.in-Some.node.now.content c.node_at-other.result.now.content c.in-Some.ensures.content_is c.node_at-other.ensures.content_is ∙ sym c.counts.ensures ∙ c.if-counts.true in
    let right : c.known_at-there.result ≡ index_at c.args.kind forest c.in-Some-next.at =
    c.known_at-there.ensures.is ∙ c.requires.known c.in-Some-next.at (subst (λ (k : ℕ). 0 < k) c.known_at-there.ensures.is c.if-there-gt0.true) in
    ap (λ k. c.loop-next.index + k) right ∙ as_far forest c.args.kind c.args.id.now c.in-Some-next.at c.loop-next.index c.loop-next.next c.loop-next.invariant c.in-Some-next.is counts_so

pub returns-then-there-gt0-clause-few : goal.returns-then-there-gt0-clause-few
returns-then-there-gt0-clause-few c =
    let few = never_many (forest_of c.args.nodes.now) c.args.kind c.args.id.now c.loop-next.index c.loop-next.next c.loop-next.invariant in
    let is = returns-then-there-gt0-clause-is c in
    omega arith

passed : (c : goal.After-counted_neighbour-next-in-Some-next) → Counted (forest_of c.args.nodes.now) c.args.kind c.args.id.now c.loop-next.next c.counted_neighbour-next-in-Some-next.result c.if-counts.index
passed c =
    let grown = one_counted c.counts.result c.loop-next.index c.if-counts.index (elim c.if-counts.branch [ then-counts+else-there-gt0 w ↦ inl (w.if-counts.true, w.index-is) | else-counts w ↦ inr (w.if-counts.false, w.index-is) ]) in
    counts_on (forest_of c.args.nodes.now) c.args.kind c.args.id.now c.in-Some-next.at c.in-Some.node.now c.node_at-other.result.now (is_from_first c.args.kind) c.loop-next.next c.counted_neighbour-next-in-Some-next.result
    c.loop-next.index c.if-counts.index c.counts.result c.requires.sound.forest c.loop-next.invariant c.in-Some-next.is grown c.in-Some.ensures.content_is c.node_at-other.ensures refl c.counted_neighbour-next-in-Some-next.ensures c.counts.ensures

pub loop-next-smaller : goal.loop-next-smaller
loop-next-smaller c = Counted.fewer (passed c)

pub loop-next-preserved : goal.loop-next-preserved
loop-next-preserved c = Counted.counting (passed c)
