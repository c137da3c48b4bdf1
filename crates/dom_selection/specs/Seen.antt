-- Sets of ids.
use Rattle.std.specs.Prelude.{ℕ, ◌≡◌, List, [], ◌∷◌, ◌++◌, if◌then◌else◌}
use Rattle.dom_links.specs.Lists.{is_member}

-- Both lists have the same ids.
abbrev pub HaveSame : List ℕ → List ℕ → Type 0
HaveSame old new = (n : ℕ) → is_member n new ≡ is_member n old

-- The ids that were found before, then the new ones, each once.
abbrev pub with_unseen : List ℕ → List ℕ → List ℕ
with_unseen met [] = met
with_unseen met (n ∷ ns) = with_unseen (if is_member n met then met else met ++ n ∷ []) ns
