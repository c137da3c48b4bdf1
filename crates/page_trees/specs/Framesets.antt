-- The modes of framesets (13.2.6.4.18 to 13.2.6.4.22).
use Rattle.std.specs.Prelude.{[], ◌∷◌, Bool, List, codes, false, true}
use Rattle.std.specs.List.{list_all}
use Rattle.standard_trees.specs.Building.{Building, is_met, perform}
use Rattle.standard_trees.specs.GrowingTree.{is_single}
use Rattle.standard_trees.specs.RuleWords.{AfterAfterFrameset, AfterFrameset, CurrentNode, Fragment, Mode as StandardMode, Pop, SwitchTo}
use Rattle.standard_trees.specs.RuleWords.{Test, These, isnt}

-- no fragment is parsed, and the current node is no frameset
abbrev pub no_frameset_left : List Test
no_frameset_left = isnt Fragment ∷ isnt (CurrentNode (These (codes "frameset" ∷ []))) ∷ []

-- then the mode is switched
abbrev pub framesets_left : Building → Building
framesets_left b = elim (list_all (is_met b) no_frameset_left) [ true ↦ perform (SwitchTo AfterFrameset) b | false ↦ b ]

-- what the end tag `frameset` does: the current node is popped, unless it is the outermost element
abbrev pub frameset_ended : Building → Building
frameset_ended b = elim (is_single b.tree.stack) [ true ↦ b | false ↦ framesets_left (perform Pop b) ]

-- the modes after the framesets
abbrev pub is_behind_framesets : StandardMode → Bool
is_behind_framesets AfterFrameset = true
is_behind_framesets AfterAfterFrameset = true
is_behind_framesets _ = false
