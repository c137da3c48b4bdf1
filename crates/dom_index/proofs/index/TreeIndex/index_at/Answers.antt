use Rattle.std.proofs.Common.{rules}
use Rattle.dom_index.proofs.index.TreeIndex.index_at.Goals as goal

pub returns-clause-is : goal.returns-clause-is
returns-clause-is c = search rules
