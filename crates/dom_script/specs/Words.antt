-- The parts of a line: its first word and its argument.
use Rattle.std.specs.Prelude.{◌≡◌, ◌≢◌, ◌⊎◌, ℕ, Bool, false, true, List, [], ◌∷◌, ◌++◌, Option, MatchOption, Result, IfOk}
use Rattle.std.specs.List.{list_all}
use Rattle.dom_markup.specs.Bytes.{is_name_byte}

-- The line is the word, one space and the argument; or the word alone, and the argument is empty.
abbrev pub HasArgument : List ℕ → List ℕ → List ℕ → Type 0
HasArgument line word argument = (line ≡ word ++ 32 ∷ argument) ⊎ ((line ≡ word) × (argument ≡ []))

-- The line isn't the word, with or without an argument.
abbrev pub HasNoArgument : List ℕ → List ℕ → Type 0
HasNoArgument line word = (argument : List ℕ) → HasArgument line word argument → ⊥

-- Whether the text is one or more name bytes.
abbrev pub is_name : List ℕ → Bool
is_name [] = false
is_name (b ∷ bs) = list_all is_name_byte (b ∷ bs)

-- The line is the word and a name.
abbrev pub HasName : List ℕ → List ℕ → List ℕ → Type 0
HasName line word name = HasArgument line word name × (is_name name ≡ true)

-- The line isn't the word and a name.
abbrev pub HasNoName : List ℕ → List ℕ → Type 0
HasNoName line word = (name : List ℕ) → HasName line word name → ⊥

-- On success, `Is` is true of what was found; if nothing was found, `Nothing` is true.
abbrev pub Finds : {A E : Type 0} → Result (Option A) E → Type 0 → (A → Type 0) → Type 0
Finds result Nothing Is = IfOk result (λ found. MatchOption found Nothing Is)

-- The line is the word for what was found; if nothing was found, the line is no such word.
abbrev pub IsWordOf : {A : Type 0} → (A → List ℕ) → List ℕ → Option A → Type 0
IsWordOf {A} word line found = MatchOption found ((x : A) → line ≢ word x) (λ x. line ≡ word x)
