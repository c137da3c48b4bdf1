use Rattle.std.proofs.Common.{◌≡◌, [], ◌++◌, append-nil, length, refl, sym, ap, ◌∙◌, subst}
use Rattle.std.proofs.lemmas.Option.{slice_get_within}
use Rattle.dom_links.specs.Forest.{forest_of}
use Rattle.dom_mini.specs.MiniPaths.{IsFound}
use Rattle.dom_mini.specs.PathFlags.{HaveFlags, to_find}
use Rattle.dom_mini.proofs.PathLemmas.{found_none, found_right}
use Rattle.dom_mini.proofs.SearchLemmas.{all_found, empty_list, of_none, of_some, still_fewer, taken_off}
use Rattle.dom_mini.proofs.mini_selector.search.follow.Goals as goal

pub returns-then-is_none : goal.returns-then-is_none
returns-then-is_none c =
    let forest = forest_of c.args.nodes.now in
    let good = c.requires.forest in
    subst (IsFound c.args.path.now forest c.args.start) (sym c.new-2.ensures.items)
    (found_none forest good (c.lines_of_a_forest.ensures forest good) (c.trees_of_a_forest.ensures forest good) c.args.path.now c.args.start
    (of_none c.find_node.result _ _ c.if-is_none.ensures c.find_node.ensures))

pub visit-requires-clause-known : goal.visit-requires-clause-known
visit-requires-clause-known c =
    let node = of_some c.find_node.result _ _ c.if-is_none.ensures c.find_node.ensures in
    slice_get_within (forest_of c.args.nodes.now).content c.args.start _ node.1.content_is

pub visit-requires-in-Some-clause-known : goal.visit-requires-in-Some-clause-known
visit-requires-in-Some-clause-known c =
    (taken_off (forest_of c.args.nodes.now) c.args.path.now c.loop-id.search _ _ c.loop-id.invariant.search c.in-Some.ensures.items).2

pub visit-requires-in-Some-clause-visit : goal.visit-requires-in-Some-clause-visit
visit-requires-in-Some-clause-visit c =
    let off = taken_off (forest_of c.args.nodes.now) c.args.path.now c.loop-id.search _ _ c.loop-id.invariant.search c.in-Some.ensures.items in
    record { known = off.1; room = off.0.room; flags = off.0.rest; below = c.loop-id.invariant.search.below }

pub loop-id-smaller : goal.loop-id-smaller
loop-id-smaller c = still_fewer (forest_of c.args.nodes.now) c.args.path.now c.loop-id.search _ _ _ c.in-Some.ensures.items c.in_ok-visit-2.ensures

pub loop-id-preserved : goal.loop-id-preserved
loop-id-preserved c =
    let forest = forest_of c.args.nodes.now in
    record {
      search = c.in_ok-visit-2.ensures.search;
      found = all_found forest c.args.path.now (c.lines_of_a_forest.ensures forest c.requires.forest) c.loop-id.search _ _ _ c.loop-id.invariant.search c.in-Some.ensures.items refl refl c.in_ok-visit-2.ensures
          ∙ c.loop-id.invariant.found;
    }

pub returns : goal.returns
returns c =
    let forest = forest_of c.args.nodes.now in
    let good = c.requires.forest in
    let node = of_some c.find_node.result _ _ c.if-is_none.ensures c.find_node.ensures in
    let known = slice_get_within forest.content c.args.start _ node.1.content_is in
    let pending : c.loop-id.search.pending.items ≡ [] = empty_list _ (sym c.loop-id.search.pending.ok.0 ∙ c.in_default.ensures.cases.0) in
    let flags = subst (λ ns. HaveFlags (length c.args.path.now) ns c.loop-id.search.flags.items) pending c.loop-id.invariant.search.flags in
    let all = sym (append-nil c.loop-id.search.found.items) ∙ ap (λ ns. c.loop-id.search.found.items ++ to_find forest c.args.path.now ns c.loop-id.search.flags.items) (sym pending) ∙ c.loop-id.invariant.found in
    subst (IsFound c.args.path.now forest c.args.start) (sym all)
    (found_right forest good (c.lines_of_a_forest.ensures forest good) (c.trees_of_a_forest.ensures forest good) c.args.path.now c.args.start known)
