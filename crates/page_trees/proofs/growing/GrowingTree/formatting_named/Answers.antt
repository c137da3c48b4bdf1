use Rattle.page_trees.proofs.DroppedElements.{finds_entry}
use Rattle.page_trees.proofs.FoundEntries.{finds}
use Rattle.page_trees.proofs.growing.GrowingTree.formatting_named.Goals as goal

pub returns : goal.returns
returns c = record {
  rule = λ known. finds _ c.args.self.now c.args.name c.named.result c.self.view_is known c.named.ensures;
  entry = finds_entry c.args.name _ c.args.self.now c.named.result c.self.view_is c.named.ensures;
}
