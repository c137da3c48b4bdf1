-- What is left of the stack of open elements, and of the list of active formatting elements, after entries are taken off its end.
use Rattle.std.specs.Prelude.{ℕ, ◌+◌, Bool, true, false, List, [], ◌∷◌, Option, Some, None, if◌then◌else◌}
use Rattle.std.specs.List.{list_any}
use Rattle.page_trees.specs.declared.formatting.Entry.{Entry}
use Rattle.page_trees.specs.declared.formatting.Entry.TheVariants.{Marker}

-- what comes before the last element that passes a test; nothing where none does
abbrev pub before_last : {X : Type 0} → (X → Bool) → List X → List X
before_last test [] = []
before_last test (x ∷ xs) = if list_any test xs then x ∷ before_last test xs else []

-- what ends with the last element that passes a test; nothing where none does
abbrev pub up_to_last : {X : Type 0} → (X → Bool) → List X → List X
up_to_last test [] = []
up_to_last test (x ∷ xs) = if list_any test (x ∷ xs) then x ∷ up_to_last test xs else []

-- the number of the first element that passes a test, if the list's first element has number n
abbrev pub first_from : {X : Type 0} → (X → Bool) → ℕ → List X → Option ℕ
first_from test n [] = None
first_from test n (x ∷ xs) = if test x then Some n else first_from test (n + 1) xs

abbrev pub is_a_marker : Entry → Bool
is_a_marker Marker = true
is_a_marker _ = false
