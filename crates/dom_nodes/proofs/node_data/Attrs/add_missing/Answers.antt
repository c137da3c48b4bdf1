use Rattle.std.proofs.Common.{rules}
use Rattle.dom_nodes.proofs.AttrLemmas.{with_missing-empty}
use Rattle.dom_nodes.proofs.node_data.Attrs.add_missing.Goals as goal

pub returns-then-is_empty-clause-ok : goal.returns-then-is_empty-clause-ok
returns-then-is_empty-clause-ok c = with_missing-empty c.args.added c.args.self.now (search rules)
