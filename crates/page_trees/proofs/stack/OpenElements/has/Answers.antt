use Rattle.std.proofs.Common.{refl}
use Rattle.page_trees.proofs.OpenNames.{is_found}
use Rattle.page_trees.proofs.stack.OpenElements.has.Goals as goal

pub returns-clause-rule : goal.returns-clause-rule
returns-clause-rule c tree known stands indexed = is_found c.args.name known tree c.args.self.now.elements.items stands _ c.top.result refl (c.top.ensures indexed)
