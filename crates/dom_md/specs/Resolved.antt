-- The text that Markdown with backslash escapes is read as.
use Rattle.std.specs.Prelude.{◌≡◌, ◌++◌, ℕ, ◌==◌, ◌&&◌, ◌||◌, nat_lt, Bool, true, false, List, [], ◌∷◌, String, string_bytes, if◌then◌else◌}
use Rattle.dom_nodes.specs.Ascii.{backslash, delete, digit_nine, digit_zero, lower_a, lower_z, space, upper_a, upper_z}

-- ASCII punctuation
abbrev pub is_punctuation : ℕ → Bool
is_punctuation b =
    (nat_lt space b && nat_lt b digit_zero) || (nat_lt digit_nine b && nat_lt b upper_a)
    || (nat_lt upper_z b && nat_lt b lower_a) || (nat_lt lower_z b && nat_lt b delete)

-- from left to right, each backslash before a punctuation character is removed and that character kept; `held` says whether the
-- byte before the text is a backslash that may still be removed
abbrev pub resolved_on : (held : Bool) → List ℕ → List ℕ
resolved_on false [] = []
resolved_on true [] = backslash ∷ []
resolved_on false (b ∷ text) = if b == backslash then resolved_on true text else b ∷ resolved_on false text
resolved_on true (b ∷ text) = if is_punctuation b then b ∷ resolved_on false text else backslash ∷ b ∷ resolved_on false text

abbrev pub resolved : List ℕ → List ℕ
resolved text = resolved_on false text

-- a text was appended that resolves to the chunk
pub record Resolves (old new chunk : List ℕ) : Type 0 where
  pub added : List ℕ
  pub is : new ≡ old ++ added
  pub resolves : resolved added ≡ chunk

-- a text was appended that resolves to these words, whatever follows it
pub record Reads (old new words : List ℕ) : Type 0 where
  pub added : List ℕ
  pub is : new ≡ old ++ added
  pub resolves : (more : List ℕ) → resolved (added ++ more) ≡ words ++ resolved more

-- the two relations for strings
abbrev pub ResolvesIn : {A : Type 0} → (old new : String A) → List ℕ → Type 0
ResolvesIn old new chunk = Resolves (string_bytes old) (string_bytes new) chunk

abbrev pub ReadsIn : {A : Type 0} → (old new : String A) → List ℕ → Type 0
ReadsIn old new words = Reads (string_bytes old) (string_bytes new) words
