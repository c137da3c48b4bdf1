use Rattle.std.proofs.Common.{◌≡◌, ◌<◌, ◌≤◌, ℕ, length, take, true}
use Rattle.dom_selectors.specs.Spelling.{Decides}
use Rattle.dom_index.specs.TestCounts.{cardinality}
use Rattle.dom_index.specs.NodeSets.{in_set}
use Rattle.dom_select.specs.Meaning.{Holds}
use Rattle.dom_selectors.specs.ValuesAsTrees.{read_compound}
use Rattle.dom_index.proofs.node_set.filter_by_compound.Given as goal

-- the nodes up to here are decided, the others stand as they did
abbrev pub invariant-loop-n : goal.invariant-loop-n
invariant-loop-n l = record {
  long : length l.table.items ≡ length l.preorder.tree.now.content;
  few : l.asked ≤ l.n;
  counted : l.asked ≡ cardinality (take l.n l.fn.wanted.items);
  kept : l.caches ≡ l.preorder.tree.now;
  answer : (m : ℕ) → m < l.n → Decides (in_set l.table.items m) ((in_set l.fn.wanted.items m ≡ true) × Holds (read_compound l.compound) l.preorder.tree.now m);
  left : (m : ℕ) → l.n ≤ m → in_set l.table.items m ≡ in_set l.fn.wanted.items m;
}
