use Rattle.std.proofs.Common.{◌∙◌, ◌≡◌, ◌<◌, ◌≤◌, ap, arith, length, get_or, set, subst, List}
use Rattle.std.proofs.lemmas.List.Edits.{map_over_more}
use Rattle.dom_trees.specs.declared.node_ref.NodeRef.{NodeRef}
use Rattle.dom_selection.proofs.SelectionLemmas.{all_in_tree, in_first_tree, in_tree_of}
use Rattle.dom_selection.proofs.selection.put_in_one_tree.Goals as goal

pub loop-i-preserved : goal.loop-i-preserved
loop-i-preserved c =
    let xs = c.args.nodes.now.items in
    let long : length xs ≡ c.len-i-end.result = omega (arith, c.len-i-end.ensures, c.deref.ensures.len, ap length c.deref.ensures.value) in
    let within : c.loop-i.i < length xs = omega (arith, long, c.loop-i-test.true) in
    let some : 0 < length xs = omega (arith, within) in
    let first : c.in-Some.first.now ≡ get_or xs 0 c.in-Some.first.now =
    subst (λ (ns : List NodeRef). c.in-Some.first.now ≡ get_or ns 0 c.in-Some.first.now) c.deref.ensures.value c.in-Some.ensures.item.1 in
    ap (set c.loop-i.nodes.items c.loop-i.i) (c.new.ensures ∙ in_first_tree xs c.in-Some.first.now c.index.result.now some first)
    ∙ map_over_more (in_tree_of xs) xs c.loop-i.nodes.items c.loop-i.i c.index.result.now within c.loop-i.invariant c.index.ensures

pub returns : goal.returns
returns c =
    let xs = c.args.nodes.now.items in
    let past : length xs ≤ c.loop-i.i = omega (arith, c.len-i-end.ensures, c.deref.ensures.len, ap length c.deref.ensures.value, c.loop-i-test.false) in
    all_in_tree xs c.loop-i.nodes.items c.loop-i.i past c.loop-i.invariant
