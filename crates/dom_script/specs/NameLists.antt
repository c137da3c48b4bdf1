-- The grammar of the lists in the line `sanitize`.
use Rattle.std.specs.Prelude.{◌≡◌, ◌==◌, ◌&&◌, ℕ, Bool, true, List, [], ◌∷◌, codes, length}
use Rattle.std.specs.List.{list_all, slice_split}
use Rattle.dom_script.specs.EditLine.{names_in}
use Rattle.dom_script.specs.Words.{HasArgument, is_name}

-- The pieces of the text between semicolons.
abbrev pub lists_in : List ℕ → List (List ℕ)
lists_in text = slice_split (λ b. b == 59) text

-- The names of a list, which may be empty.
abbrev pub listed_in : List ℕ → List (List ℕ)
listed_in [] = []
listed_in (b ∷ bs) = names_in (b ∷ bs)

-- Whether the text is a list of names.
abbrev pub is_list : List ℕ → Bool
is_list text = list_all is_name (listed_in text)

-- Whether the text is three lists of names.
abbrev pub are_lists : List ℕ → Bool
are_lists text = list_all is_list (lists_in text) && (length (lists_in text) == 3)

-- The line is the word `sanitize` and three lists.
abbrev pub IsSanitize : List ℕ → List ℕ → Type 0
IsSanitize line lists = HasArgument line (codes "sanitize") lists × (are_lists lists ≡ true)

-- The line isn't that.
abbrev pub IsNoSanitize : List ℕ → Type 0
IsNoSanitize line = (lists : List ℕ) → IsSanitize line lists → ⊥
