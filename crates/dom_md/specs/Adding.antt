-- Calls that append to a string, and texts of which a front part stays as it is.
use Rattle.std.specs.Prelude.{◌≡◌, ◌+◌, ◌<◌, ◌++◌, ℕ, Bool, List, OnOk, Result, String, drop, slice_index_or, string_bytes, take}

-- the contract of a call that appends: if it succeeds, `added` was appended to the string
abbrev pub Adds : {A T E : Type 0} → String A → String A → Result T E → List ℕ → Type 0
Adds old new result added = OnOk result (string_bytes new ≡ string_bytes old ++ added)

-- writing leaves the first `n` bytes unchanged and treats the rest by itself
abbrev pub KeepsFront : (List ℕ → List ℕ) → List ℕ → ℕ → Type 0
KeepsFront write text n = write text ≡ take n text ++ write (drop n text)

-- the test returns `answer` for each of the `n` bytes from index `at` on, each with the text after it
abbrev pub EachFrom : List ℕ → ℕ → ℕ → (ℕ → List ℕ → Bool) → Bool → Type 0
EachFrom text at n test answer = (k : ℕ) → k < n → test (slice_index_or text (at + k) 0) (drop (at + k + 1) text) ≡ answer
