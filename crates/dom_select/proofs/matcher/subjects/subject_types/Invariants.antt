use Rattle.std.proofs.Common.{◌≡◌, length}
use Rattle.dom_select.proofs.types.SubjectLemmas.{AreMetTo}
use Rattle.dom_select.proofs.matcher.subjects.subject_types.Given as goal

abbrev pub invariant-loop-selector : goal.invariant-loop-selector
invariant-loop-selector l = record {
  long : length l.types ≡ 256;
  met : AreMetTo l.types l.selectors l.selector-index;
}
