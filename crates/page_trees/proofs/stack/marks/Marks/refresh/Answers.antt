use Rattle.std.proofs.Common.{◌≡◌, ◌+◌, ◌<◌, ap, arith, length, refl, take, ◌∙◌}
use Rattle.std.specs.Prelude.{Some, slice_get}
use Rattle.std.proofs.lemmas.List.{length-set, length-take-le}
use Rattle.std.proofs.lemmas.Option.{slice_get_read}
use Rattle.page_trees.proofs.RefreshLemmas.{refresh_end, refresh_start, refresh_step, refresh_stop, AreRefreshed}
use Rattle.page_trees.proofs.stack.marks.Marks.refresh.Goals as goal

pub loop-index-init : goal.loop-index-init
loop-index-init c = record {
  links = refl;
  long = refl;
  rows = λ former lt w is le. refresh_start former c.args.elements.now c.args.place c.args.self.now.rows.items c.row_before-below.result w is (c.row_before-below.ensures former is (omega (arith, lt)));
}

pub returns-then-has_row-clause-rows : goal.returns-then-has_row-clause-rows
returns-then-has_row-clause-rows c former lt w is le =
    let so : AreRefreshed former c.args.elements.now c.loop-index.self.rows.items c.loop-index.index c.loop-index.below = c.loop-index.invariant.rows former lt w is le in
    let here : c.loop-index.index < length c.args.elements.now = c.in-Some.ensures.lookup.3.0 in
    let at : slice_get c.args.elements.now c.loop-index.index ≡ Some c.in-Some.element.now =
    slice_get_read c.args.elements.now (length c.args.elements.now) c.loop-index.index c.in-Some.element.now refl c.in-Some.ensures.lookup.3.0 c.in-Some.ensures.lookup.1 in
    let top : c.loop-index.index + 1 ≡ length (take c.loop-index.index c.args.elements.now) + 1 = omega (arith, length-take-le c.loop-index.index c.args.elements.now (omega (arith, here))) in
    refresh_stop former c.args.elements.now c.args.place c.loop-index.self.rows.items c.loop-index.index c.loop-index.below c.found-mark.result c.in-Some.element.now w so at
    (omega arith) (omega (arith, c.loop-index.invariant.long, le)) (c.found-mark.ensures (take c.loop-index.index c.args.elements.now) so.under top) (c.has_row.ensures c.if-has_row.true)

pub loop-index-preserved : goal.loop-index-preserved
loop-index-preserved c = record {
  links = c.put_row.ensures.links ∙ c.loop-index.invariant.links;
  long = ap length c.put_row.ensures.rows ∙ length-set c.loop-index.self.rows.items c.loop-index.index c.found-mark.result ∙ c.loop-index.invariant.long;
  rows = λ former lt w is le.
      let so : AreRefreshed former c.args.elements.now c.loop-index.self.rows.items c.loop-index.index c.loop-index.below = c.loop-index.invariant.rows former lt w is le in
      let here : c.loop-index.index < length c.args.elements.now = c.in-Some.ensures.lookup.3.0 in
      let at : slice_get c.args.elements.now c.loop-index.index ≡ Some c.in-Some.element.now =
      slice_get_read c.args.elements.now (length c.args.elements.now) c.loop-index.index c.in-Some.element.now refl c.in-Some.ensures.lookup.3.0 c.in-Some.ensures.lookup.1 in
      let top : c.loop-index.index + 1 ≡ length (take c.loop-index.index c.args.elements.now) + 1 = omega (arith, length-take-le c.loop-index.index c.args.elements.now (omega (arith, here))) in
      refresh_step former c.args.elements.now c.loop-index.self.rows.items c.put_row.new.self.rows.items c.loop-index.index c.loop-index.below c.found-mark.result c.in-Some.element.now so at
      (omega (arith, c.loop-index-test.true, ap length c.as_slice-index-end.ensures.value, c.loop-index.invariant.long))
      (c.found-mark.ensures (take c.loop-index.index c.args.elements.now) so.under top) c.put_row.ensures.rows;
}

pub returns-clause-rows : goal.returns-clause-rows
returns-clause-rows c former lt w is le =
    refresh_end former c.args.elements.now c.loop-index.self.rows.items c.loop-index.index c.loop-index.below (c.loop-index.invariant.rows former lt w is le)
    (omega (arith, c.loop-index-test.false, ap length c.as_slice-index-end.ensures.value, c.loop-index.invariant.long))
