-- What is asked of a character so that its turn is covered.
use Rattle.std.proofs.Common.{◌≡◌, true, ◌||◌, not}
use Rattle.standard_trees.specs.Building.{Building}
use Rattle.page_trees.specs.CharacterSteps.{covers_characters, goes_to_mode}
use Rattle.page_trees.specs.CoveredTurns.{covers_character, is_text_mode}
use Rattle.page_trees.proofs.NamesAgree.{both}

pub record IsCovered (b : Building) : Type 0 where
  pub text : (not (is_text_mode b.mode) || goes_to_mode b.tree) ≡ true
  pub covered : covers_characters b ≡ true

pub is_covered : (b : Building) → covers_character b ≡ true → IsCovered b
is_covered b e =
    let two = both (not (is_text_mode b.mode) || goes_to_mode b.tree) (covers_characters b) e in
    record { text = two.0; covered = two.1 }
