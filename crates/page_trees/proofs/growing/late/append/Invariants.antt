use Rattle.std.proofs.Common.{◌≡◌, ◌++◌}
use Rattle.page_trees.proofs.growing.late.append.Given as goal

-- the attributes that were appended and those that are left are all
abbrev pub invariant-loop-attr : goal.invariant-loop-attr
invariant-loop-attr l = l.attrs ++ l.attr-iterator.rest.items ≡ l.fn.attrs ++ l.fn.added.items
