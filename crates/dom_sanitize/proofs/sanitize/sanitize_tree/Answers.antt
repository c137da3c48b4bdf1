use Rattle.std.proofs.Common.{◌∙◌, subst}
use Rattle.dom_links.specs.Sound.{IsForest}
use Rattle.dom_sanitize.specs.Clean.{lists_of}
use Rattle.dom_sanitize.proofs.Allowed.{is_cleaned, may_clear, may_cut, may_put_back}
use Rattle.dom_sanitize.proofs.sanitize.sanitize_tree.Goals as goal

pub cut_out-requires : goal.cut_out-requires
cut_out-requires c =
    let old = c.args.tree.now in
    let good = subst IsForest c.nodes.ensures.value c.nodes.ensures.sound.forest in
    may_cut (lists_of c.args.allow.now) old good (c.trees_of_a_forest.ensures old good) (c.lines_of_a_forest.ensures old good) c.deref.result.now (c.deref.ensures.value ∙ c.in_ok-steps.ensures)

pub put_back-requires : goal.put_back-requires
put_back-requires c =
    let old = c.args.tree.now in
    let good = subst IsForest c.nodes.ensures.value c.nodes.ensures.sound.forest in
    may_put_back (lists_of c.args.allow.now) old good (c.trees_of_a_forest.ensures old good) (c.lines_of_a_forest.ensures old good) c.deref.result.now c.deref-2.result.now c.cut_out.new.tree
    (c.deref.ensures.value ∙ c.in_ok-steps.ensures) (c.deref-2.ensures.value ∙ c.in_ok-steps.ensures) c.cut_out.ensures

pub clear_attrs-requires : goal.clear_attrs-requires
clear_attrs-requires c =
    let old = c.args.tree.now in
    let good = subst IsForest c.nodes.ensures.value c.nodes.ensures.sound.forest in
    may_clear (lists_of c.args.allow.now) old good (c.trees_of_a_forest.ensures old good) (c.lines_of_a_forest.ensures old good) c.deref.result.now c.deref-2.result.now c.deref-3.result.now c.cut_out.new.tree c.put_back.new.tree
    (c.deref.ensures.value ∙ c.in_ok-steps.ensures) (c.deref-2.ensures.value ∙ c.in_ok-steps.ensures) (c.deref-3.ensures.value ∙ c.in_ok-steps.ensures) c.cut_out.ensures c.put_back.ensures

pub returns-clause-ok : goal.returns-clause-ok
returns-clause-ok c =
    let old = c.args.tree.now in
    let good = subst IsForest c.nodes.ensures.value c.nodes.ensures.sound.forest in
    is_cleaned (lists_of c.args.allow.now) old good (c.trees_of_a_forest.ensures old good) (c.lines_of_a_forest.ensures old good) c.changes_of_data.ensures
    c.deref.result.now c.deref-2.result.now c.deref-3.result.now c.cut_out.new.tree c.put_back.new.tree c.clear_attrs.new.tree
    (c.deref.ensures.value ∙ c.in_ok-steps.ensures) (c.deref-2.ensures.value ∙ c.in_ok-steps.ensures) (c.deref-3.ensures.value ∙ c.in_ok-steps.ensures) c.cut_out.ensures c.put_back.ensures c.clear_attrs.ensures
    (subst IsForest c.nodes-2.ensures.value c.nodes-2.ensures.sound.forest)

pub returns-clause-err : goal.returns-clause-err
returns-clause-err c = tt
