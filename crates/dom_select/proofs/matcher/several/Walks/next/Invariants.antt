use Rattle.std.proofs.Common.{◌≡◌, length}
use Rattle.dom_select.specs.Roots.{root_ids}
use Rattle.dom_select.proofs.SeveralLemmas.{still}
use Rattle.dom_select.proofs.matcher.several.Walks.next.Given as goal

-- what is still given stays
abbrev pub invariant-loop-id : goal.invariant-loop-id
invariant-loop-id l = still l.self-inside.walk l.self-inside.tree (root_ids l.self-inside.roots) ≡ still l.initial.self-inside.walk l.initial.self-inside.tree (root_ids l.initial.self-inside.roots)

abbrev pub decreases-loop-id : goal.decreases-loop-id
decreases-loop-id l = length (root_ids l.self-inside.roots)
