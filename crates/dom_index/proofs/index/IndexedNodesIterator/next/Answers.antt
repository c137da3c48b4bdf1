use Rattle.std.proofs.Common.{◌∙◌, sym}
use Rattle.dom_index.proofs.index.IndexedNodesIterator.next.Goals as goal

pub returns-clause-steps : goal.returns-clause-steps
returns-clause-steps c = sym c.self.view_is ∙ c.in_ok-first.ensures.cases.0
