use Rattle.std.proofs.Common.{rules, ◌≡◌}
use Rattle.dom_links.specs.Sound.{contents_at}
use Rattle.page_trees.proofs.Ways.{contents_or}
use Rattle.page_trees.proofs.growing.placing.inside.Goals as goal

pub returns-in-Some-clause-held : goal.returns-in-Some-clause-held
returns-in-Some-clause-held c x element at =
    let held : contents_at c.args.tree.now c.args.id ≡ c.template_contents.result = search rules in
    contents_or _ _ _ x _ c.is_forest.ensures held c.unwrap_or.ensures element at
