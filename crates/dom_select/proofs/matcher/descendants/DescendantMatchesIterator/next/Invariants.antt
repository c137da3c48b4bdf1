use Rattle.std.proofs.Common.{◌≡◌, IfSome, length}
use Rattle.dom_select.specs.Subjects.{SubjectIsAmong}
use Rattle.dom_select.proofs.MatchLemmas.{Passes, walk_of}
use Rattle.dom_select.proofs.matcher.descendants.DescendantMatchesIterator.next.Given as goal

abbrev pub invariant-loop-id : goal.invariant-loop-id
invariant-loop-id l =
    record {
      passes : Passes (walk_of l.initial.self-inside.ids.left l.initial.self-inside.tree l.initial.self-inside.matcher.now) (walk_of l.self-inside.ids.left l.self-inside.tree l.self-inside.matcher.now);
      caches : l.self-inside.caches ≡ l.self-inside.tree.now;
      among : IfSome l.self-inside.types (λ types. SubjectIsAmong types l.self-inside.matcher.now);
    }

abbrev pub decreases-loop-id : goal.decreases-loop-id
decreases-loop-id l = length l.self-inside.ids.left
