use Rattle.std.proofs.Common.{arith}
use Rattle.dom_links.proofs.indexes.index_at.Goals as goal

pub index_with-requires-clause-known : goal.index_with-requires-clause-known
index_with-requires-clause-known c = λ n some. absurd (omega (arith, some))
