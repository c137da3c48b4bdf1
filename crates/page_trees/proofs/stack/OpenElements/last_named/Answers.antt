use Rattle.std.proofs.Common.{true}
use Rattle.page_trees.specs.Scopes.{is_named}
use Rattle.page_trees.specs.SearchIndex.{has_key}
use Rattle.page_trees.specs.Sets.{is_special_element}
use Rattle.page_trees.proofs.ClosedElements.{found_at}
use Rattle.page_trees.proofs.stack.OpenElements.last_named.Goals as goal

pub returns : goal.returns
returns c = record {
  known = λ known is. found_at (is_named c.args.name) is_special_element _ _ _ _ (c.top_numbered.ensures.known known is) (c.last.ensures is) c.place_from.ensures;
  other = λ is. found_at (has_key true c.args.name c.args.number) is_special_element _ _ _ _ (c.top_numbered.ensures.other is) (c.last.ensures is) c.place_from.ensures;
}
