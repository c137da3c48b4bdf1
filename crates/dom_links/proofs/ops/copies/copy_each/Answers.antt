use Rattle.std.proofs.Common.{◌<◌, ◌∙◌, ◌+◌, ◌++◌, ◌∷◌, [], ap, arith, drop, length, sym, vec_len}
use Rattle.std.proofs.lemmas.List.{append-nil, drop_all}
use Rattle.std.proofs.lemmas.Result.{err_from_is_err_and}
use Rattle.dom_links.specs.Copies.{copied_below, copy_numbers}
use Rattle.dom_links.specs.Forest.{forest_of}
use Rattle.dom_links.proofs.copies.Copied.{all_refused, count_is, more_copied, place_more, next_copied, next_numbered, next_refused, no_numbers, none_copied}
use Rattle.dom_links.proofs.ops.copies.copy_each.Goals as goal

pub returns-in_err-number-clause-copies : goal.returns-in_err-number-clause-copies
returns-in_err-number-clause-copies g c =
    let here : c.loop-id.id-index < length c.args.ids.now = omega arith in
    all_refused g.at c.args.other c.from_residual.result c.in_err-number.field-0.0 c.args.nodes.now c.copy_tree.new.nodes (copied_below g.at.source c.args.parent.now c.args.ids.now) (err_from_is_err_and c.from_residual.result c.from_residual.ensures.1) c.copy_tree.ensures.copies.under_way
    (next_refused g.at.source c.args.parent.now c.args.ids.now c.loop-id.id-index c.id-item.result (forest_of c.loop-id.nodes.items) (copied_below g.at.source c.args.parent.now c.args.ids.now (forest_of c.args.nodes.now.items)) c.in_err-number.field-0.0 c.requires.0.good c.requires.1.0 here c.id-item.is c.loop-id.invariant.left c.in_err-number.ensures.copies.cause)

pub loop-id-preserved : goal.loop-id-preserved
loop-id-preserved g c =
    let here : c.loop-id.id-index < length c.args.ids.now = omega arith in
    let good = c.requires.0.good in
    let count = count_is g.at c.args.other c.loop-id.nodes.items (vec_len c.loop-id.nodes) c.loop-id.invariant.under_way (omega arith) in
    let more = count_is g.at c.args.other c.copy_tree.new.nodes.items (vec_len c.copy_tree.new.nodes) c.copy_tree.ensures.copies.under_way (omega arith) in
    let few = more_copied g.at.source c.args.parent.now (c.id-item.result ∷ []) (forest_of c.loop-id.nodes.items) (forest_of c.copy_tree.new.nodes.items) c.in_ok-number.ensures.copies.made in
    record {
      below = place_more g.at (vec_len c.loop-id.nodes) (vec_len c.copy_tree.new.nodes) c.args.parent.now c.loop-id.invariant.below (omega arith);
      under_way = c.copy_tree.ensures.copies.under_way;
      left = next_copied g.at.source c.args.parent.now c.args.ids.now c.loop-id.id-index c.id-item.result (forest_of c.loop-id.nodes.items) (forest_of c.copy_tree.new.nodes.items) (copied_below g.at.source c.args.parent.now c.args.ids.now (forest_of c.args.nodes.now.items)) good c.requires.1.0 here c.id-item.is c.in_ok-number.ensures.copies.made c.loop-id.invariant.left;
      numbers_so_far = ap (λ ks. ks ++ copy_numbers g.at.source (drop (c.loop-id.id-index + 1) c.args.ids.now) (forest_of c.copy_tree.new.nodes.items)) c.in_ok-push_number.ensures.ok
          ∙ next_numbered g.at.source c.args.parent.now c.args.ids.now c.loop-id.id-index c.id-item.result c.in_ok-number.number c.loop-id.numbers.items (forest_of c.loop-id.nodes.items) (forest_of c.copy_tree.new.nodes.items) (copy_numbers g.at.source c.args.ids.now (forest_of c.args.nodes.now.items)) good c.requires.1.0 here c.id-item.is (c.in_ok-number.ensures.number ∙ count) c.in_ok-number.ensures.copies.made c.loop-id.invariant.numbers_so_far;
    }

pub returns-clause-copies : goal.returns-clause-copies
returns-clause-copies g c = record {
  under_way = c.loop-id.invariant.under_way;
  made = sym (none_copied g.at.source c.args.parent.now (forest_of c.loop-id.nodes.items))
      ∙ ap (λ ks. copied_below g.at.source c.args.parent.now ks (forest_of c.loop-id.nodes.items)) (sym (drop_all c.loop-id.id-index c.args.ids.now c.loop-id-test.false)) ∙ c.loop-id.invariant.left;
  cause = tt;
}

pub returns-clause-numbers : goal.returns-clause-numbers
returns-clause-numbers g c =
    let none = ap (λ ks. copy_numbers g.at.source ks (forest_of c.loop-id.nodes.items)) (drop_all c.loop-id.id-index c.args.ids.now c.loop-id-test.false) ∙ no_numbers g.at.source (forest_of c.loop-id.nodes.items) in
    sym (append-nil c.loop-id.numbers.items) ∙ ap (λ ks. c.loop-id.numbers.items ++ ks) (sym none) ∙ c.loop-id.invariant.numbers_so_far
