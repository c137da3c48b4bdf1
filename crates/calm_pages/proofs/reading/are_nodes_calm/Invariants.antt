use Rattle.std.proofs.Common.{◌≡◌, suc, drop, length}
use Rattle.dom_markup.specs.Numbered.{document_of, rows_from}
use Rattle.dom_markup.specs.ValueTrees.{ValueTrees}
use Rattle.calm_pages.specs.Calm.{are_calm, top}
use Rattle.calm_pages.proofs.ScopeLemmas.{all_fit}
use Rattle.calm_pages.proofs.reading.are_nodes_calm.Given as goal

-- each node so far has its scope, and the nodes that are left decide
abbrev pub invariant-loop-node : goal.invariant-loop-node
invariant-loop-node l = record {
  each : length l.scopes.items ≡ suc l.node-index;
  left : (trees : ValueTrees) → l.tree ≡ document_of trees → all_fit l.scopes.items (drop l.node-index (rows_from 0 1 trees)) ≡ are_calm top trees;
}
