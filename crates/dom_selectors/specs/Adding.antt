-- Contracts of calls that append to a string or a vector.
use Rattle.std.specs.Prelude.{◌≡◌, ◌++◌, ◌∷◌, [], ℕ, List, OnOk, Result, String, map, string_bytes}

-- on success, this text was appended to the string
abbrev pub Adds : {A T E : Type 0} → String A → String A → Result T E → List ℕ → Type 0
Adds old new result added = OnOk result (string_bytes new ≡ string_bytes old ++ added)

-- on success, this value was appended; the contract compares the vectors after `read` is applied to each value
abbrev pub Pushes : {V A T E : Type 0} → (V → A) → List V → List V → Result T E → V → Type 0
Pushes read old new result v = OnOk result (map read new ≡ map read old ++ read v ∷ [])
