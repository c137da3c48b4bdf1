use Rattle.std.proofs.Common.{ℕ, Result, Ok, Err}
use Rattle.dom_nodes.specs.declared.fault.EditFault.{EditFault}
use Rattle.dom_links.specs.Forest.{Forest}
use Rattle.dom_trees.specs.Edits.{Edits, removing}
use Rattle.page_trees.specs.Elements.{Grows}
use Rattle.page_trees.proofs.StandingEdits.{cut_changes}
use Rattle.page_trees.proofs.Ways.{grows_cut, grows_same}
use Rattle.page_trees.proofs.growing.edits.cut_out.Goals as goal

cut_call : (r : Result Unit EditFault) (f g : Forest) (x : ℕ) → Edits r f g (removing x) → Grows f g
cut_call (Ok done) f g x edits = grows_cut f g x edits.ok
cut_call (Err fault) f g x edits = grows_same f g edits.err

pub returns-clause-grows : goal.returns-clause-grows
returns-clause-grows c = cut_call _ _ _ _ c.remove_from_parent.ensures

pub returns-clause-rule : goal.returns-clause-rule
returns-clause-rule c = cut_changes _ _ _ _ _ c.in-Ok.is c.remove_from_parent.ensures
