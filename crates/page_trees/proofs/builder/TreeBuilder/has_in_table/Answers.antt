use Rattle.std.proofs.Common.{subst, sym}
use Rattle.page_trees.specs.Stands.{IsStackOf}
use Rattle.page_trees.proofs.builder.TreeBuilder.has_in_table.Goals as goal

pub returns : goal.returns
returns c known t b = c.in_scope.ensures.rule t known (subst (IsStackOf t) (sym c.open.ensures.elements) b.stack) c.open.ensures.index
