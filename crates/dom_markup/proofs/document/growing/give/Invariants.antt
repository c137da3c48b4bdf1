use Rattle.std.proofs.Common.{◌≡◌, take}
use Rattle.std.specs.Rc.{rc_value}
use Rattle.dom_markup.specs.TreeUnderConstruction.{with_lists}
use Rattle.dom_markup.proofs.document.growing.give.Given as goal

-- the first elements have their attributes
abbrev pub invariant-loop-one : goal.invariant-loop-one
invariant-loop-one l = record {
  given : l.tree ≡ with_lists l.fn.attrs.items (take l.one-index l.waiting) l.initial.tree;
  list : (rc_value l.list).items ≡ l.fn.attrs.items;
}
