use Rattle.page_trees.proofs.CompletedTrees.{attrs_added}
use Rattle.page_trees.proofs.growing.late.LateAttrs.put_into.Goals as goal

pub returns-clause-ok : goal.returns-clause-ok
returns-clause-ok c =
    attrs_added _ _ _ _ _ _ _ c.in_ok-attrs.ensures.ok c.in_ok-append.ensures.ok c.in_ok-remove_attrs.ensures.ok c.in_ok-add_attrs.ensures.ok
