-- A text in lower case: its characters and its bytes are folded alike.
use Rattle.std.specs.Prelude.{◌≡◌, ℕ, ◌+◌, ◌/◌, ◌%◌, ◌<◌, ◌≤◌, Bool, true, false, cond, nat_lt, List, [], ◌∷◌, ◌++◌, map, refl}
use Rattle.std.proofs.Common.{arith, inl, inr}
use Rattle.std.specs.Char.{encode_utf8, to_ascii_lowercase}
use Rattle.std.specs.Str.{encode_utf8_all}
use Rattle.std.proofs.lemmas.Str.{encode_ascii}
use Rattle.std.proofs.lemmas.Str.Ascii.{lowercase-lowercase}
use mathlib.Core.Path.{◌∙◌, sym, ap}
use Rattle.std.proofs.lemmas.Bool.{cases_lt}

high_stays : (b : ℕ) → 128 ≤ b → to_ascii_lowercase b ≡ b
high_stays b h = grind arith

low_stays_low : (c : ℕ) → c < 128 → to_ascii_lowercase c < 128
low_stays_low c h = grind arith

map_append : (f : ℕ → ℕ) (xs ys : List ℕ) → map f (xs ++ ys) ≡ map f xs ++ map f ys
map_append f [] ys = refl
map_append f (x ∷ xs) ys = ap (λ t. f x ∷ t) (map_append f xs ys)

abbrev AllHigh : List ℕ → Type 0
AllHigh [] = Unit {0}
AllHigh (b ∷ bs) = (128 ≤ b) × AllHigh bs

all_stay : (bs : List ℕ) → AllHigh bs → map to_ascii_lowercase bs ≡ bs
all_stay [] all = refl
all_stay (b ∷ bs) all = ap (λ x. x ∷ map to_ascii_lowercase bs) (high_stays b all.0) ∙ ap (λ t. b ∷ t) (all_stay bs all.1)

not_low : (c : ℕ) → 128 ≤ c → nat_lt c 128 ≡ false
not_low c h = grind arith

encoded_high : (c : ℕ) → 128 ≤ c → AllHigh (encode_utf8 c)
unfolding encode_utf8
encoded_high c h = rw (not_low c h) (each (nat_lt c 2048) (nat_lt c 65536))
  where
    each : (x y : Bool) → AllHigh (cond x ((192 + c / 64) ∷ (128 + c % 64) ∷ []) (cond y ((224 + c / 4096) ∷ (128 + (c / 64) % 64) ∷ (128 + c % 64) ∷ [])
        ((240 + c / 262144) ∷ (128 + (c / 4096) % 64) ∷ (128 + (c / 64) % 64) ∷ (128 + c % 64) ∷ [])))
    each true y = (omega arith, (omega arith, tt))
    each false true = (omega arith, (omega arith, (omega arith, tt)))
    each false false = (omega arith, (omega arith, (omega arith, (omega arith, tt))))

high_encoded : (c : ℕ) → 128 ≤ c → map to_ascii_lowercase (encode_utf8 c) ≡ encode_utf8 c
high_encoded c h = all_stay (encode_utf8 c) (encoded_high c h)

lowered_encoded : (c : ℕ) → map to_ascii_lowercase (encode_utf8 c) ≡ encode_utf8 (to_ascii_lowercase c)
lowered_encoded c = elim (cases_lt c 128) [
  | inl low ↦ ap (map to_ascii_lowercase) (encode_ascii c low) ∙ sym (encode_ascii (to_ascii_lowercase c) (low_stays_low c low))
  | inr high ↦ high_encoded c high ∙ ap encode_utf8 (sym (high_stays c high))
]

pub all_lowered : (cs : List ℕ) → map to_ascii_lowercase (encode_utf8_all cs) ≡ encode_utf8_all (map to_ascii_lowercase cs)
all_lowered [] = refl
all_lowered (c ∷ cs) =
    map_append to_ascii_lowercase (encode_utf8 c) (encode_utf8_all cs) ∙ ap (λ e. e ++ map to_ascii_lowercase (encode_utf8_all cs)) (lowered_encoded c)
    ∙ ap (λ e. encode_utf8 (to_ascii_lowercase c) ++ e) (all_lowered cs)

-- what is in lower case stays as it is
pub lowered_once : (cs : List ℕ) → map to_ascii_lowercase (map to_ascii_lowercase cs) ≡ map to_ascii_lowercase cs
lowered_once [] = refl
lowered_once (c ∷ cs) =
    ap (λ d. d ∷ map to_ascii_lowercase (map to_ascii_lowercase cs)) (lowercase-lowercase c) ∙ ap (λ ds. to_ascii_lowercase c ∷ ds) (lowered_once cs)
