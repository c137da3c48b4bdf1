use Rattle.std.proofs.Common.{true, ◌≡◌, ◌-◌, refl, sym, ◌∙◌, subst, arith, inl, inr}
use Rattle.dom_links.specs.Forest.{forest_of}
use Rattle.dom_links.specs.Indexes.{AreIndexes, counts, index_at, is_from_first}
use Rattle.dom_links.proofs.moves.Cuts.{length-contents}
use Rattle.dom_links.proofs.walks.IndexLemmas.{Counted, counts_is, counts_on, one_counted, starts}
use Rattle.dom_links.proofs.walks.KnownLemmas.{as_far, noted}
use Rattle.dom_links.proofs.indexes.note_indexes.Goals as goal
use Rattle.dom_links.proofs.indexes.note_indexes.Goals.{then-counts+else-known_at-gt0, else-counts}

pub loop-next-init : goal.loop-next-init
loop-next-init c =
    let forest = forest_of c.args.nodes.now in
    let long = length-contents forest c.args.nodes.now c.requires.sound.arena.links in
    record {
      counting = starts forest c.args.kind c.args.id.now c.in-Some.node.now (is_from_first c.args.kind) c.counted_neighbour-next.result c.requires.sound.forest (omega (arith, c.requires.sound.numbered)) c.in-Some.ensures refl c.counted_neighbour-next.ensures;
      right = subst (AreIndexes c.args.kind forest) (sym c.note.ensures) (noted forest c.args.kind c.args.known.now c.args.id.now c.args.index c.requires.known c.requires.is);
    }

passed : (c : goal.After-counted_neighbour-next-in-Some-next) → Counted (forest_of c.args.nodes.now) c.args.kind c.args.id.now c.loop-next.next c.counted_neighbour-next-in-Some-next.result c.if-counts.passed
passed c =
    let grown = one_counted c.counts.result c.loop-next.passed c.if-counts.passed (elim c.if-counts.branch [ then-counts+else-known_at-gt0 w ↦ inl (w.if-counts.true, w.passed-is) | else-counts w ↦ inr (w.if-counts.false, w.passed-is) ]) in
    counts_on (forest_of c.args.nodes.now) c.args.kind c.args.id.now c.in-Some-next.at c.in-Some.node.now c.node_at-other.result.now (is_from_first c.args.kind) c.loop-next.next c.counted_neighbour-next-in-Some-next.result
    c.loop-next.passed c.if-counts.passed c.counts.result c.requires.sound.forest c.loop-next.invariant.counting c.in-Some-next.is grown c.in-Some.ensures.content_is c.node_at-other.ensures refl c.counted_neighbour-next-in-Some-next.ensures c.counts.ensures

right : (c : goal.After-counted_neighbour-next-in-Some-next) → AreIndexes c.args.kind (forest_of c.args.nodes.now) c.if-counts.known
right c =
    let forest = forest_of c.args.nodes.now in
    elim c.if-counts.branch [
      | then-counts+else-known_at-gt0 w ↦
          let counts_so : counts c.args.kind forest c.args.id.now c.in-Some-next.at ≡ true =
          counts_is forest c.args.kind c.args.id.now c.in-Some-next.at c.in-Some.node.now.content c.node_at-other.result.now.content c.in-Some.ensures.content_is c.node_at-other.ensures.content_is ∙ sym c.counts.ensures ∙ w.if-counts.true in
          let far = as_far forest c.args.kind c.args.id.now c.in-Some-next.at c.loop-next.passed c.loop-next.next c.loop-next.invariant.counting c.in-Some-next.is counts_so in
          let whole = c.requires.is in
          let here : c.args.index - c.loop-next.passed ≡ index_at c.args.kind forest c.in-Some-next.at = omega arith in
          subst (AreIndexes c.args.kind forest) (sym (w.known-is ∙ w.note-then-counts.ensures)) (noted forest c.args.kind c.loop-next.known c.in-Some-next.at (c.args.index - c.loop-next.passed) c.loop-next.invariant.right here)
      | else-counts w ↦ subst (AreIndexes c.args.kind forest) (sym w.known-is) c.loop-next.invariant.right
    ]

pub loop-next-smaller : goal.loop-next-smaller
loop-next-smaller c = Counted.fewer (passed c)

pub loop-next-preserved : goal.loop-next-preserved
loop-next-preserved c = record { counting = Counted.counting (passed c); right = right c }
