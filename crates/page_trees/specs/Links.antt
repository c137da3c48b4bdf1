-- How the search index of the stack of open elements links elements with one key. A position is one more than an index; 0 stands for
-- none.
use Rattle.std.specs.Prelude.{ℕ, zero, suc, ◌≡◌, ◌<◌, ◌≤◌, List, length, get_or, set}

-- position t is the last one up to n at which P holds
pub record IsLast (P : ℕ → Type 0) (n t : ℕ) : Type 0 where
  pub within : t ≤ n
  pub here : (k : ℕ) → t ≡ suc k → P k
  pub none : (j : ℕ) → t ≤ j → j < n → P j → ⊥

-- Of n elements with the keys K: `same` has for each the previous one with its key, `next` the next one, and `tops` the last one for
-- each key.
pub record AreLinked (K : ℕ → ℕ) (n : ℕ) (same next tops : ℕ → ℕ) : Type 0 where
  pub before : (k : ℕ) → k < n → IsLast (λ j. K j ≡ K k) k (same k)
  pub after : (j k : ℕ) → j < n → next j ≡ suc k → (k < n) × (same k ≡ suc j)
  pub back : (j k : ℕ) → k < n → same k ≡ suc j → next j ≡ suc k
  pub last : (key : ℕ) → IsLast (λ j. K j ≡ key) n (tops key)

-- the same, of lists
pub record AreLinks (keys same next tops : List ℕ) : Type 0 where
  pub same_long : length same ≡ length keys
  pub next_long : length next ≡ length keys
  pub linked : AreLinked (λ k. get_or keys k 0) (length keys) (λ k. get_or same k 0) (λ k. get_or next k 0) (λ key. get_or tops key 0)

-- a list of which the entry for a position is replaced; position 0 has none
abbrev pub set_before : List ℕ → ℕ → ℕ → List ℕ
set_before list zero value = list
set_before list (suc index) value = set list index value

-- a list of which an entry is replaced, if a position is 0
abbrev pub set_where_none : ℕ → List ℕ → ℕ → ℕ → List ℕ
set_where_none zero list index value = set list index value
set_where_none (suc _) list index value = list
