use Rattle.std.proofs.Common.{◌≡◌, true, map}
use Rattle.std.specs.List.{list_all}
use Rattle.dom_script.specs.Words.{is_name}
use Rattle.dom_script.proofs.script.edit_line.are_names.Given as goal

abbrev pub invariant-loop-name : goal.invariant-loop-name
invariant-loop-name l = record {
  can : (goal.iterator-loop-name).can_next l.name-iterator;
  finite : (goal.iterator-loop-name).is_finite l.name-iterator;
  passed : list_all is_name (map (λ name. name.now) l.yielded) ≡ true;
}
