-- The letters of names in lower case: the standard folds each as it comes, the tokenizer the bytes of the whole name at its end.
use Rattle.std.specs.Prelude.{◌≡◌, ℕ, ◌+◌, ◌/◌, ◌%◌, ◌<◌, ◌≤◌, Bool, true, false, cond, nat_lt, List, [], ◌∷◌, ◌++◌, map, refl}
use Rattle.std.proofs.Common.{arith, inl, inr}
use Rattle.std.specs.Char.{encode_utf8, to_ascii_lowercase}
use Rattle.std.specs.Str.{encode_utf8_all}
use Rattle.std.proofs.lemmas.List.{append-nil}
use Rattle.std.proofs.lemmas.Str.{encode_ascii, encodes-append}
use mathlib.Core.Path.{◌∙◌, sym, ap}
use Rattle.std.proofs.lemmas.Bool.{cases_lt}

high_stays : (b : ℕ) → 128 ≤ b → to_ascii_lowercase b ≡ b
high_stays b h = grind arith

low_stays_low : (c : ℕ) → c < 128 → to_ascii_lowercase c < 128
low_stays_low c h = grind arith

pub map_append : (f : ℕ → ℕ) (xs ys : List ℕ) → map f (xs ++ ys) ≡ map f xs ++ map f ys
map_append f [] ys = refl
map_append f (x ∷ xs) ys = ap (λ t. f x ∷ t) (map_append f xs ys)

abbrev AllHigh : List ℕ → Type 0
AllHigh [] = Unit {0}
AllHigh (b ∷ bs) = (128 ≤ b) × AllHigh bs

all_stay : (bs : List ℕ) → AllHigh bs → map to_ascii_lowercase bs ≡ bs
all_stay [] all = refl
all_stay (b ∷ bs) all = ap (λ x. x ∷ map to_ascii_lowercase bs) (high_stays b all.0) ∙ ap (λ t. b ∷ t) (all_stay bs all.1)

not_low : (c : ℕ) → 128 ≤ c → nat_lt c 128 ≡ false
not_low c h = grind arith

encoded_high : (c : ℕ) → 128 ≤ c → AllHigh (encode_utf8 c)
unfolding encode_utf8
encoded_high c h = rw (not_low c h) (each (nat_lt c 2048) (nat_lt c 65536))
  where
    each : (x y : Bool) → AllHigh (cond x ((192 + c / 64) ∷ (128 + c % 64) ∷ []) (cond y ((224 + c / 4096) ∷ (128 + (c / 64) % 64) ∷ (128 + c % 64) ∷ [])
        ((240 + c / 262144) ∷ (128 + (c / 4096) % 64) ∷ (128 + (c / 64) % 64) ∷ (128 + c % 64) ∷ [])))
    each true y = (omega arith, (omega arith, tt))
    each false true = (omega arith, (omega arith, (omega arith, tt)))
    each false false = (omega arith, (omega arith, (omega arith, (omega arith, tt))))

high_encoded : (c : ℕ) → 128 ≤ c → map to_ascii_lowercase (encode_utf8 c) ≡ encode_utf8 c
high_encoded c h = all_stay (encode_utf8 c) (encoded_high c h)

pub lowered_encoded : (c : ℕ) → map to_ascii_lowercase (encode_utf8 c) ≡ encode_utf8 (to_ascii_lowercase c)
lowered_encoded c = elim (cases_lt c 128) [
  | inl low ↦ ap (map to_ascii_lowercase) (encode_ascii c low) ∙ sym (encode_ascii (to_ascii_lowercase c) (low_stays_low c low))
  | inr high ↦ high_encoded c high ∙ ap encode_utf8 (sym (high_stays c high))
]

-- one more character of a name
pub one_lowered : (old more name : List ℕ) (c : ℕ) → map to_ascii_lowercase old ≡ encode_utf8_all name → more ≡ encode_utf8 c → map to_ascii_lowercase (old ++ more) ≡ encode_utf8_all (name ++ to_ascii_lowercase c ∷ [])
one_lowered old more name c is more_is =
    map_append to_ascii_lowercase old more ∙ ap (λ t. t ++ map to_ascii_lowercase more) is ∙ ap (λ t. encode_utf8_all name ++ map to_ascii_lowercase t) more_is
    ∙ ap (λ t. encode_utf8_all name ++ t) (lowered_encoded c ∙ sym (append-nil (encode_utf8 (to_ascii_lowercase c)))) ∙ sym (encodes-append name (to_ascii_lowercase c ∷ []))

-- a name in lower case stays as it is
once : (c : ℕ) → to_ascii_lowercase (to_ascii_lowercase c) ≡ to_ascii_lowercase c
once c = grind arith

pub lowered_once : (bs : List ℕ) → map to_ascii_lowercase (map to_ascii_lowercase bs) ≡ map to_ascii_lowercase bs
lowered_once [] = refl
lowered_once (b ∷ bs) = ap (λ x. x ∷ map to_ascii_lowercase (map to_ascii_lowercase bs)) (once b) ∙ ap (λ t. to_ascii_lowercase b ∷ t) (lowered_once bs)
