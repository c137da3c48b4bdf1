use Rattle.std.proofs.Common.{◌≡◌}
use Rattle.std.specs.Prelude.{find}
use Rattle.dom_trees.specs.Views.{has_local_name, child_named}
use Rattle.dom_trees.proofs.node_ref.NodeRef.child_named.Given as goal

abbrev pub invariant-loop-id : goal.invariant-loop-id
invariant-loop-id l =
    (goal.iterator-loop-id).can_next l.id-iterator ×
    (goal.iterator-loop-id).is_finite l.id-iterator ×
    (find (λ n. has_local_name l.self.tree.now n l.name) l.id-iterator ≡ child_named l.self.tree.now l.self.id l.name)
