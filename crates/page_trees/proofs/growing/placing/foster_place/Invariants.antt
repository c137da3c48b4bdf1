use Rattle.std.proofs.Common.{◌≡◌, reverse, length}
use Rattle.page_trees.specs.Elements.{AreOpen, LiesAt}
use Rattle.page_trees.specs.Placing.{foster_place_of}
use Rattle.page_trees.specs.declared.growing.placing.Place.{Place}
use Rattle.page_trees.proofs.growing.placing.foster_place.Given as goal

-- the elements that are left decide
abbrev pub invariant-loop-open : goal.invariant-loop-open
invariant-loop-open l = record {
  open_elements : AreOpen l.tree l.rest;
  lies : (place : Place) → LiesAt l.tree l.rest place → LiesAt l.tree l.elements place;
  value : foster_place_of l.tree (reverse l.rest) ≡ foster_place_of l.tree (reverse l.elements);
}

abbrev pub decreases-loop-open : goal.decreases-loop-open
decreases-loop-open l = length l.rest
