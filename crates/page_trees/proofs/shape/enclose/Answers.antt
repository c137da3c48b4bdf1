use Rattle.page_trees.proofs.Enclosing.{on_ok, page_made}
use Rattle.page_trees.proofs.shape.enclose.Goals as goal

pub returns : goal.returns
returns c = on_ok c.append_child_of-3.result c.append_child_of-3.ensures.ok (page_made c.args.tree.now _ _ _ _ _ _ _ _ _ _ _ c.is_forest.ensures c.root_id-root.ensures
    c.in_ok-body.ensures.ok c.in_ok-body.ensures.number c.in_ok-reparent_children_of.ensures.ok c.in_ok-html.ensures.ok c.in_ok-html.ensures.number
    c.in_ok-head.ensures.ok c.in_ok-head.ensures.number c.in_ok-append_child_of.ensures.ok c.in_ok-append_child_of-2.ensures.ok)
