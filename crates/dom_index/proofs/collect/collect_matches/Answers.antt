use Rattle.std.proofs.Common.{◌≡◌, ◌++◌, ◌+◌, ◌∙◌, drop, subst, arith}
use Rattle.std.specs.List.{flat_map}
use Rattle.std.proofs.lemmas.Grind.{common_steps}
use Rattle.dom_links.specs.Trees.{descendants_in_order}
use Rattle.dom_index.specs.Collected.{collected}
use Rattle.dom_index.proofs.CollectLemmas.{root_collected, roots_cut}
use Rattle.dom_index.proofs.collect.collect_matches.Goals as goal

pub loop-root-preserved : goal.loop-root-preserved
loop-root-preserved c =
    let forest = c.args.preorder.now.tree.now in
    let roots = c.args.roots.now in
    let i = c.loop-root.root-index in
    let r = c.root-item.result in
    let all = collected forest c.args.table.items (flat_map (descendants_in_order forest) roots) in
    let h = subst (λ ns. c.loop-root.found.items ++ collected forest c.loop-root.table.items ns ≡ all) (roots_cut forest i roots r (omega arith) c.root-item.is) c.loop-root.invariant.all in
    record {
      long = c.collect_below.ensures.long ∙ c.loop-root.invariant.long;
      all = root_collected forest c.loop-root.found.items c.collect_below.new.found.items c.loop-root.table.items c.collect_below.new.table.items (descendants_in_order forest r) (flat_map (descendants_in_order forest) (drop (i + 1) roots)) all c.in_ok-collect_below.ensures.added c.in_ok-collect_below.ensures.left h;
    }

pub returns : goal.returns
returns c = grind (arith, common_steps)
