use Rattle.std.proofs.Common.{◌≡◌, ◌∙◌, ap, arith, ◌+◌, length, length-set, refl, set, slice_get, Some, subst, sym}
use Rattle.std.proofs.lemmas.Option.{slice_get_read, slice_get_within}
use Rattle.dom_links.specs.Indexes.{index_at}
use Rattle.dom_select.proofs.IndexLemmas.{AreIndexesBelow, asks_for_none, one_more_part, part_written}
use Rattle.dom_select.proofs.matcher.compounds.indexes_for.Goals as goal
use Rattle.dom_select.proofs.matcher.compounds.indexes_for.Goals.{in-Position, in_default}

-- the simple selector of this step
part_here : (c : goal.Joined-part) → slice_get c.args.compound.now.parts.items c.loop-part.part-index ≡ Some c.part-item.result
part_here c =
    subst (λ parts. slice_get parts c.loop-part.part-index ≡ Some c.part-item.result) c.deref-part-items.ensures.value
    (slice_get_read c.deref-part-items.result.now _ c.loop-part.part-index c.part-item.result refl c.loop-part-test.true c.part-item.is)

pub loop-part-preserved : goal.loop-part-preserved
loop-part-preserved c =
    let forest = c.args.x.now.tree.now in
    let n = c.args.x.now.id in
    let parts = c.args.compound.now.parts.items in
    let before = c.loop-part.invariant in
    elim c.match-part.branch [
      | in-Position w ↦
          let position = w.in-Position.position in
          let written = w.indexes-is ∙ ap (λ place. set c.loop-part.indexes place w.index_at.result) w.kind_place.ensures.is in
          let right = w.index_at.ensures.is ∙ ap (λ f. index_at position.kind f n) (before.kept ∙ c.requires) in
          record {
            long = ap length w.indexes-is ∙ (length-set c.loop-part.indexes w.kind_place.result w.index_at.result ∙ before.long);
            kept = w.caches-is ∙ (w.index_at.ensures.same ∙ before.kept);
            so_far = subst (AreIndexesBelow (c.loop-part.part-index + 1) parts forest n) (sym written)
                (part_written c.loop-part.part-index parts position forest n c.loop-part.indexes w.index_at.result before.long right (part_here c ∙ ap Some w.in-Position.is) before.so_far);
          }
      | in_default w ↦
          record {
            long = ap length w.indexes-is ∙ before.long;
            kept = w.caches-is ∙ before.kept;
            so_far = subst (AreIndexesBelow (c.loop-part.part-index + 1) parts forest n) (sym w.indexes-is)
                (one_more_part c.loop-part.part-index parts c.part-item.result forest n c.loop-part.indexes (part_here c) before.so_far
                (asks_for_none c.part-item.result forest n c.loop-part.indexes w.in_default.not-Position));
          }
    ]

pub returns-clause-are : goal.returns-clause-are
returns-clause-are c i part found =
    let within = slice_get_within c.args.compound.now.parts.items i part found in
    let all = ap length c.deref-part-items.ensures.value in
    c.loop-part.invariant.so_far i part (omega (arith, within, all, c.loop-part-test.false)) found
