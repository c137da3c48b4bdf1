use Rattle.std.proofs.Common.{◌≡◌, true, length, map}
use Rattle.std.specs.List.{list_all}
use Rattle.dom_script.specs.NameLists.{is_list}
use Rattle.dom_script.proofs.script.lists.are_lists.Given as goal

abbrev pub invariant-loop-list : goal.invariant-loop-list
invariant-loop-list l = record {
  can : (goal.iterator-loop-list).can_next l.list-iterator;
  finite : (goal.iterator-loop-list).is_finite l.list-iterator;
  counted : l.count ≡ length l.yielded;
  passed : list_all is_list (map (λ list. list.now) l.yielded) ≡ true;
}
