use Rattle.std.proofs.Common.{◌≡◌, false, length, ap, ◌∙◌}
use Rattle.std.specs.Prelude.{ℕ, replicate}
use Rattle.dom_select.specs.Roots.{root_ids}
use Rattle.dom_select.proofs.SeveralLemmas.{walks_once}
use Rattle.dom_select.proofs.matcher.several.first_occurrences.Goals as goal

pub returns : goal.returns
returns c =
    let none : c.in_ok-marks.marks.items ≡ replicate (length c.args.tree.now.content) false = c.in_ok-marks.ensures.items_if_clones_equal (λ y e. e) ∙ ap (λ (n : ℕ). replicate n false) c.len.ensures in
    walks_once c.args.tree.now (root_ids c.args.roots) c.in_ok-marks.marks.items c.tree_laws.ensures none
