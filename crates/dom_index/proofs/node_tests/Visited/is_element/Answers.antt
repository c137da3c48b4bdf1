use Rattle.dom_index.proofs.TypeFilterLemmas.{element_by_byte}
use Rattle.dom_index.proofs.node_tests.Visited.is_element.Goals as goal

pub returns : goal.returns
returns c = let visited = c.args.self.now in element_by_byte visited.tree.now visited.id visited.byte visited.known visited.named
