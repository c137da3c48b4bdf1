use Rattle.page_trees.specs.Closing.{ends_items_node, item_names, item_texts}
use Rattle.page_trees.specs.Scopes.{ends_items, is_among}
use Rattle.page_trees.proofs.ClosedElements.{closed_at, items_agree, nothing_closed}
use Rattle.page_trees.proofs.growing.GrowingTree.close_item.Goals as goal

pub returns-in-Some : goal.returns-in-Some
returns-in-Some c t b =
    closed_at (is_among (item_names c.args.name)) ends_items ends_items_node (item_texts c.args.name) (items_agree c.args.name) _ _ _ t _ c.self.view_is b (c.in-Some.ensures c.self.invariant.1) c.truncate.ensures

pub returns-in_default : goal.returns-in_default
returns-in_default c t b =
    nothing_closed (is_among (item_names c.args.name)) ends_items ends_items_node (item_texts c.args.name) (items_agree c.args.name) _ _ t c.self.view_is b (c.in_default.ensures c.self.invariant.1)
