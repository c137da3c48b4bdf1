use Rattle.std.proofs.Common.{◌++◌, ap, sym, ◌∙◌}
use Rattle.std.specs.List.{flat_map}
use Rattle.dom_links.specs.Trees.{descendants_in_order}
use Rattle.dom_select.specs.Roots.{root_ids}
use Rattle.dom_select.proofs.SeveralLemmas.{next_root, still_none}
use Rattle.dom_select.proofs.matcher.several.Walks.next.Goals as goal

pub returns-in-Some : goal.returns-in-Some
returns-in-Some c =
    sym c.self.view_is ∙ sym c.loop-id.invariant ∙ ap (λ ns. ns ++ flat_map (descendants_in_order c.loop-id.self-inside.tree.now) (root_ids c.loop-id.self-inside.roots)) c.in-Some.ensures

pub returns-in_err-root : goal.returns-in_err-root
returns-in_err-root c =
    rw c.from_residual.ensures (
      sym c.self.view_is ∙ sym c.loop-id.invariant ∙ still_none c.loop-id.self-inside.walk c.loop-id.self-inside.tree (root_ids c.loop-id.self-inside.roots) c.in_default.ensures.0 c.in_err-root.ensures.0,
      still_none c.next_in.new.walk c.loop-id.self-inside.tree (root_ids c.take_first.new.roots) c.in_default.ensures.1 c.in_err-root.ensures.1,
    )

pub loop-id-preserved : goal.loop-id-preserved
loop-id-preserved c =
    next_root c.loop-id.self-inside.walk c.loop-id.self-inside.tree (root_ids c.loop-id.self-inside.roots) (root_ids c.take_first.new.roots) c.descendant_ids_of_it.result.left c.in_ok-root.root
    c.in_default.ensures.0 c.in_ok-root.ensures c.descendant_ids_of_it.ensures.all ∙ c.loop-id.invariant
