use Rattle.std.specs.Prelude.{take}
use Rattle.page_trees.specs.Likeness.{AreKeysOf}
use Rattle.page_trees.specs.ListIndex.{AreIndexed, likes_in}
use Rattle.page_trees.proofs.formatting.made_index.Given as goal

-- the entries so far are indexed
abbrev pub invariant-loop-place : goal.invariant-loop-place
invariant-loop-place l = record {
  indexed : AreIndexed (take l.place l.entries) l.index;
  keys : AreKeysOf l.tree (likes_in l.index).numbers (take l.place l.entries) l.index.likes;
}
