use Rattle.std.proofs.Common.{Some, arith, ap, sym, ◌∙◌}
use Rattle.std.specs.Prelude.{slice_get, take}
use Rattle.page_trees.specs.Formatting.{places_alike}
use Rattle.page_trees.proofs.LikePlaces.{IsSearched, alike_passed, found_inside, inside_front, marker_left, none_left, still_front, third_is, unlike_passed}
use Rattle.page_trees.proofs.formatting.third_found.Goals as goal
use Rattle.page_trees.proofs.formatting.third_found.Goals.{then-are_same+in-Some-checked_sub, else-are_same}

pub returns-in_default-element_among : goal.returns-in_default-element_among
returns-in_default-element_among c =
    marker_left c.args.tree.now c.args.id c.args.likeness c.args.entries.now c.loop-place.rest.now c.args.index.now c.in-Some.place c.loop-place.to_pass
    (record { finds = c.requires; front = c.loop-place.invariant.front; tells = c.in-Some.ensures }) c.in_default-element_among.ensures
    ∙ c.loop-place.invariant.left

pub returns-in_default-checked_sub : goal.returns-in_default-checked_sub
returns-in_default-checked_sub c =
    third_is c.args.tree.now c.args.id c.args.likeness c.args.entries.now c.loop-place.rest.now c.args.index.now c.in-Some.place c.loop-place.to_pass
    c.in-Some-element_among.other
    (record { finds = c.requires; front = c.loop-place.invariant.front; tells = c.in-Some.ensures }) c.in-Some-element_among.ensures
    (sym c.are_same.ensures ∙ c.if-are_same.true) (omega (arith, c.in_default-checked_sub.ensures))
    ∙ c.loop-place.invariant.left

pub slice_bounds-rest-end : goal.slice_bounds-rest-end
slice_bounds-rest-end c =
    let less = found_inside c.args.tree.now c.args.id c.args.likeness c.args.entries.now c.loop-place.rest.now c.args.index.now c.in-Some.place
    (record { finds = c.requires; front = c.loop-place.invariant.front; tells = c.in-Some.ensures }) in
    sym (inside_front c.in-Some.place c.loop-place.rest.now (omega (arith, less)))

pub loop-place-smaller : goal.loop-place-smaller
loop-place-smaller c =
    let less = found_inside c.args.tree.now c.args.id c.args.likeness c.args.entries.now c.loop-place.rest.now c.args.index.now c.in-Some.place
    (record { finds = c.requires; front = c.loop-place.invariant.front; tells = c.in-Some.ensures }) in
    let long = inside_front c.in-Some.place c.loop-place.rest.now (omega (arith, less)) in
    omega (arith, less, long)

pub loop-place-preserved : goal.loop-place-preserved
loop-place-preserved c =
    let searched : IsSearched c.args.tree.now c.args.id c.args.likeness c.args.entries.now c.loop-place.rest.now c.args.index.now (Some c.in-Some.place) =
    record { finds = c.requires; front = c.loop-place.invariant.front; tells = c.in-Some.ensures } in
    let less = found_inside c.args.tree.now c.args.id c.args.likeness c.args.entries.now c.loop-place.rest.now c.args.index.now c.in-Some.place searched in
    record {
      front = still_front c.args.entries.now c.loop-place.rest.now c.in-Some.place c.loop-place.invariant.front (omega (arith, less));
      left = elim c.if-are_same.branch [
        | then-are_same+in-Some-checked_sub w ↦
            ap (slice_get (places_alike c.args.tree.now c.args.id (take c.in-Some.place c.loop-place.rest.now))) w.to_pass-is
            ∙ alike_passed c.args.tree.now c.args.id c.args.likeness c.args.entries.now c.loop-place.rest.now c.args.index.now c.in-Some.place
            c.loop-place.to_pass w.in-Some-checked_sub.fewer c.in-Some-element_among.other searched c.in-Some-element_among.ensures
            (sym c.are_same.ensures ∙ w.if-are_same.true) (omega (arith, w.in-Some-checked_sub.ensures))
            ∙ c.loop-place.invariant.left
        | else-are_same w ↦
            ap (slice_get (places_alike c.args.tree.now c.args.id (take c.in-Some.place c.loop-place.rest.now))) w.to_pass-is
            ∙ unlike_passed c.args.tree.now c.args.id c.args.likeness c.args.entries.now c.loop-place.rest.now c.args.index.now c.in-Some.place
            c.loop-place.to_pass c.in-Some-element_among.other searched c.in-Some-element_among.ensures (sym c.are_same.ensures ∙ w.if-are_same.false)
            ∙ c.loop-place.invariant.left
      ];
    }

pub returns : goal.returns
returns c =
    none_left c.args.tree.now c.args.id c.args.likeness c.args.entries.now c.loop-place.rest.now c.args.index.now c.loop-place.to_pass
    (record { finds = c.requires; front = c.loop-place.invariant.front; tells = c.in_default.ensures })
    ∙ c.loop-place.invariant.left
