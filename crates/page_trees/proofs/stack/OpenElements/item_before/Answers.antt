use Rattle.page_trees.specs.Closing.{item_names}
use Rattle.page_trees.specs.Scopes.{ends_items, is_among}
use Rattle.page_trees.proofs.ClosedElements.{found_at}
use Rattle.page_trees.proofs.stack.OpenElements.item_before.Goals as goal

pub returns : goal.returns
returns c is = found_at (is_among (item_names c.args.name)) ends_items _ _ _ _ (c.top_item.ensures is) (c.last.ensures is) c.place_from.ensures
