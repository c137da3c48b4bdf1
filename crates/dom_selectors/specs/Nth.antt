-- The An+B notation of CSS Syntax, such as `2n+1`.
use Rattle.std.specs.Prelude.{◌≡◌, ◌<◌, ◌≤◌, ℕ, List, ◌∷◌, Bool, false, ◌&&◌, ◌||◌, nat_eq, cond, drop, Option, MatchBool, MatchOption}
use Rattle.dom_nodes.specs.Ascii.{hyphen, lower_d, lower_e, lower_n, lower_o, lower_v, plus_sign, upper_d, upper_e, upper_n, upper_o, upper_v}
use Rattle.dom_nodes.specs.declared.indexes.Nth.{Nth}
use Rattle.dom_nodes.specs.declared.indexes.Signed.{Signed}
use Rattle.dom_selectors.specs.Characters.{after_white, begins, digits_len, greatest_number, number_at}

abbrev pub is_sign : ℕ → Bool
is_sign c = nat_eq c plus_sign || nat_eq c hyphen

abbrev pub is_minus : ℕ → Bool
is_minus c = nat_eq c hyphen

-- `n` in upper or lower case
abbrev pub is_n : ℕ → Bool
is_n c = nat_eq c lower_n || nat_eq c upper_n

-- a number: one digit or more, as many as there are
pub record SpellsNumber (v : ℕ) (text rest : List ℕ) : Type 0 where
  pub some : 0 < digits_len text
  pub value : v ≡ number_at text
  pub most : v ≤ greatest_number
  pub rest_is : rest ≡ drop (digits_len text) text

-- this number, or `None` if it is past the limit
abbrev pub IsWithinLimit : Option ℕ → ℕ → Type 0
IsWithinLimit result n = MatchOption result (greatest_number < n) (λ m. (m ≡ n) × (m ≤ greatest_number))

abbrev pub signed : Bool → ℕ → Signed
signed is_negative n = record { is_negative = is_negative; magnitude = n }

-- the text without a leading sign
abbrev pub after_sign : List ℕ → List ℕ
after_sign text = cond (begins is_sign text) (drop 1 text) text

-- a sign with optional whitespace around it and a number, or nothing
abbrev pub SpellsOffset : Signed → List ℕ → List ℕ → Type 0
SpellsOffset v text rest = MatchBool (begins is_sign (after_white text))
    ((n : ℕ) × SpellsNumber n (after_white (drop 1 (after_white text))) rest × (v ≡ signed (begins is_minus (after_white text)) n))
    ((v ≡ signed false 0) × (rest ≡ text))

-- what follows a sign and digits: `n` and an offset, or nothing
abbrev pub SpellsAfterNumber : Signed → Nth → List ℕ → List ℕ → Type 0
SpellsAfterNumber number v text rest = MatchBool (begins is_n text)
    ((v.a ≡ number) × SpellsOffset v.b (drop 1 text) rest)
    ((v.a ≡ signed false 0) × (v.b ≡ number) × (rest ≡ text))

-- `n` without digits, or digits and what follows them
abbrev pub SpellsUnsigned : Bool → Nth → List ℕ → List ℕ → Type 0
SpellsUnsigned is_negative v text rest = MatchBool (begins is_n text)
    (SpellsAfterNumber (signed is_negative 1) v text rest)
    ((n : ℕ) × (mid : List ℕ) × SpellsNumber n text mid × SpellsAfterNumber (signed is_negative n) v mid rest)

-- the text starts with `even`, in upper or lower case
abbrev pub begins_even : List ℕ → Bool
begins_even (a ∷ b ∷ c ∷ d ∷ text) = (nat_eq a lower_e || nat_eq a upper_e) && (nat_eq b lower_v || nat_eq b upper_v) && (nat_eq c lower_e || nat_eq c upper_e) && is_n d
begins_even _ = false

-- the text starts with `odd`, in upper or lower case
abbrev pub begins_odd : List ℕ → Bool
begins_odd (a ∷ b ∷ c ∷ text) = (nat_eq a lower_o || nat_eq a upper_o) && (nat_eq b lower_d || nat_eq b upper_d) && (nat_eq c lower_d || nat_eq c upper_d)
begins_odd _ = false

-- `even` is 2n, and `odd` is 2n+1
abbrev pub every_second : ℕ → Nth
every_second first = record { a = signed false 2; b = signed false first }

abbrev pub SpellsNth : Nth → List ℕ → List ℕ → Type 0
SpellsNth v text rest = MatchBool (begins_even text) ((v ≡ every_second 0) × (rest ≡ drop 4 text))
    (MatchBool (begins_odd text) ((v ≡ every_second 1) × (rest ≡ drop 3 text))
    (SpellsUnsigned (begins is_minus text) v (after_sign text) rest))
