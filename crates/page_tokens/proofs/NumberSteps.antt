-- What a character in a numeric reference does, in the standard.
use Rattle.std.specs.Prelude.{◌≡◌, ℕ, ◌+◌, ◌-◌, ◌*◌, ◌<◌, ◌≤◌, min, Bool, true, false, ◌==◌, ◌&&◌, nat_le, cond, List, [], ◌∷◌, ◌++◌, ◌⊎◌, take, refl}
use Rattle.std.proofs.Common.{inl, inr, arith}
use Rattle.std.specs.Char.{IsDigitOf, digit_value}
use Rattle.std.proofs.lemmas.Bool.{ne_eqb}
use mathlib.Core.Path.{sym, subst}
use Rattle.standard_tokens.specs.Entries.{Add, Buffer, Current, CodeZero, CodeDigit, BufferNumber, Flush, Stay, Switch, Reconsume, ReconsumeBack}
use Rattle.standard_tokens.specs.Machine.{Machine, at_state, emitted, taken}
use Rattle.standard_tokens.specs.Numbers.{character_of}
use Rattle.standard_tokens.specs.States as there
use Rattle.standard_tokens.specs.States.{State as StandardState}
use Rattle.standard_tokens.specs.Table.{entries}
use Rattle.page_tokens.specs.Standard.{Goes}
use Rattle.page_tokens.proofs.ReferenceEnds.{flushing}
use Rattle.page_tokens.proofs.StandardSteps.{by_bool, by_entry, taking, then_on}

-- ---- digits

abbrev pub is_digit : ℕ → Bool
is_digit c = nat_le 0x30 c && nat_le c 0x39

abbrev pub is_upper_hex : ℕ → Bool
is_upper_hex c = nat_le 0x41 c && nat_le c 0x46

abbrev pub is_lower_hex : ℕ → Bool
is_lower_hex c = nat_le 0x61 c && nat_le c 0x66

-- a digit of the base 16, with its value
pub data HexDigit (c d : ℕ) : Type 0 where
  decimal : is_digit c ≡ true → c - 0x30 ≡ d → HexDigit c d
  upper : is_digit c ≡ false → is_upper_hex c ≡ true → c - 0x37 ≡ d → HexDigit c d
  lower : is_digit c ≡ false → is_upper_hex c ≡ false → is_lower_hex c ≡ true → c - 0x57 ≡ d → HexDigit c d

pub hex_digit : (c d : ℕ) → IsDigitOf c d → d < 16 → HexDigit c d
hex_digit c d (inl one) less = let a = one.0.0 in let b = one.0.1 in let e = one.1 in decimal (grind arith) (omega arith)
hex_digit c d (inr (inl one)) less = let a = one.0.0 in let b = one.0.1 in let e = one.1 in upper (grind arith) (grind arith) (omega arith)
hex_digit c d (inr (inr one)) less = let a = one.0.0 in let b = one.0.1 in let e = one.1 in lower (grind arith) (grind arith) (grind arith) (omega arith)

pub decimal_digit : (c d : ℕ) → IsDigitOf c d → d < 10 → (is_digit c ≡ true) × (c - 0x30 ≡ d)
decimal_digit c d (inl one) less = let a = one.0.0 in let b = one.0.1 in let e = one.1 in (grind arith, omega arith)
decimal_digit c d (inr (inl one)) less = let a = one.0.0 in let b = one.0.1 in let e = one.1 in absurd (omega arith)
decimal_digit c d (inr (inr one)) less = let a = one.0.0 in let b = one.0.1 in let e = one.1 in absurd (omega arith)

pub no_digit : (c : ℕ) → (digit_value c < 10 → ⊥) → is_digit c ≡ false
no_digit c h = grind arith

pub record IsNoHex (c : ℕ) : Type 0 where
  pub digit : is_digit c ≡ false
  pub upper : is_upper_hex c ≡ false
  pub lower : is_lower_hex c ≡ false

pub no_hex : (c : ℕ) → (digit_value c < 16 → ⊥) → IsNoHex c
no_hex c h = record { digit = grind arith; upper = grind arith; lower = grind arith }

-- the numbers above the last code point are all the same
pub more_of : (n base d : ℕ) → 1 ≤ base → min (min n 0x110000 * base + d) 0x110000 ≡ min (n * base + d) 0x110000
more_of n base d some = grind arith

pub same_character : (n : ℕ) → character_of (min n 0x110000) ≡ character_of n
same_character n = grind arith

-- ---- the steps

abbrev pub coded : Machine → StandardState → ℕ → Machine
coded m state n = record m { state = state; code = n }

pub hex_step : (b : Bool) (m : Machine) (n c d : ℕ) (rest : List ℕ) → HexDigit c d →
    Goes (coded m there.HexadecimalCharacterReference n) (c ∷ rest) [] (coded m there.HexadecimalCharacterReference (n * 16 + d)) rest
unfolding taken entries
hex_step b m n c d rest (decimal is value) =
    subst (λ e. Goes (coded m there.HexadecimalCharacterReference n) (c ∷ rest) [] (coded m there.HexadecimalCharacterReference (n * 16 + e)) rest) value
    (by_entry (coded m there.HexadecimalCharacterReference n) (c ∷ rest) (taking (CodeDigit 16 0x30 ∷ []) Stay (c ∷ [])) (λ x. rw is refl) refl)
hex_step b m n c d rest (upper other is value) =
    subst (λ e. Goes (coded m there.HexadecimalCharacterReference n) (c ∷ rest) [] (coded m there.HexadecimalCharacterReference (n * 16 + e)) rest) value
    (by_entry (coded m there.HexadecimalCharacterReference n) (c ∷ rest) (taking (CodeDigit 16 0x37 ∷ []) Stay (c ∷ [])) (λ x. rw (other, is) refl) refl)
hex_step b m n c d rest (lower other none is value) =
    subst (λ e. Goes (coded m there.HexadecimalCharacterReference n) (c ∷ rest) [] (coded m there.HexadecimalCharacterReference (n * 16 + e)) rest) value
    (by_entry (coded m there.HexadecimalCharacterReference n) (c ∷ rest) (taking (CodeDigit 16 0x57 ∷ []) Stay (c ∷ [])) (λ x. rw (other, none, is) refl) refl)

-- the first digit
hex_first : (b : Bool) (m : Machine) (c d : ℕ) (rest : List ℕ) → HexDigit c d →
    Goes (at_state m there.HexadecimalCharacterReferenceStart) (c ∷ rest) [] (at_state m there.HexadecimalCharacterReference) (c ∷ rest)
unfolding taken entries
hex_first b m c d rest (decimal is value) =
    by_entry (at_state m there.HexadecimalCharacterReferenceStart) (c ∷ rest) (taking [] (Reconsume there.HexadecimalCharacterReference) (c ∷ [])) (λ x. rw is refl) refl
hex_first b m c d rest (upper other is value) =
    by_entry (at_state m there.HexadecimalCharacterReferenceStart) (c ∷ rest) (taking [] (Reconsume there.HexadecimalCharacterReference) (c ∷ [])) (λ x. rw (other, is) refl) refl
hex_first b m c d rest (lower other none is value) =
    by_entry (at_state m there.HexadecimalCharacterReferenceStart) (c ∷ rest) (taking [] (Reconsume there.HexadecimalCharacterReference) (c ∷ [])) (λ x. rw (other, none, is) refl) refl

pub hex_begins : (b : Bool) (m : Machine) (c d : ℕ) (rest : List ℕ) → HexDigit c d →
    Goes (at_state m there.HexadecimalCharacterReferenceStart) (c ∷ rest) [] (coded m there.HexadecimalCharacterReference (m.code * 16 + d)) rest
hex_begins b m c d rest is = then_on (hex_first b m c d rest is) (hex_step b m m.code c d rest is)

pub decimal_step : (b : Bool) (m : Machine) (n c d : ℕ) (rest : List ℕ) → is_digit c ≡ true → c - 0x30 ≡ d →
    Goes (coded m there.DecimalCharacterReference n) (c ∷ rest) [] (coded m there.DecimalCharacterReference (n * 10 + d)) rest
unfolding taken entries
decimal_step b m n c d rest is value =
    subst (λ e. Goes (coded m there.DecimalCharacterReference n) (c ∷ rest) [] (coded m there.DecimalCharacterReference (n * 10 + e)) rest) value
    (by_entry (coded m there.DecimalCharacterReference n) (c ∷ rest) (taking (CodeDigit 10 0x30 ∷ []) Stay (c ∷ [])) (λ x. rw is refl) refl)

-- behind `&#`
pub hex_starts : (b : Bool) (m : Machine) (c : ℕ) (rest : List ℕ) → (c ≡ 120) ⊎ (c ≡ 88) →
    Goes (at_state m there.NumericCharacterReference) (c ∷ rest) [] (record m { state = there.HexadecimalCharacterReferenceStart; code = 0; buffer = m.buffer ++ c ∷ [] }) rest
unfolding taken entries
hex_starts b m c rest (inl e) =
    subst (λ d. Goes (at_state m there.NumericCharacterReference) (d ∷ rest) [] (record m { state = there.HexadecimalCharacterReferenceStart; code = 0; buffer = m.buffer ++ d ∷ [] }) rest) (sym e)
    (by_entry (at_state m there.NumericCharacterReference) (120 ∷ rest) (taking (CodeZero ∷ Add Buffer Current ∷ []) (Switch there.HexadecimalCharacterReferenceStart) (120 ∷ [])) (λ x. refl) refl)
hex_starts b m c rest (inr e) =
    subst (λ d. Goes (at_state m there.NumericCharacterReference) (d ∷ rest) [] (record m { state = there.HexadecimalCharacterReferenceStart; code = 0; buffer = m.buffer ++ d ∷ [] }) rest) (sym e)
    (by_entry (at_state m there.NumericCharacterReference) (88 ∷ rest) (taking (CodeZero ∷ Add Buffer Current ∷ []) (Switch there.HexadecimalCharacterReferenceStart) (88 ∷ [])) (λ x. refl) refl)

decimal_starts : (b : Bool) (m : Machine) (c : ℕ) (rest : List ℕ) → (120 == c) ≡ false → (88 == c) ≡ false →
    Goes (at_state m there.NumericCharacterReference) (c ∷ rest) [] (coded m there.DecimalCharacterReferenceStart 0) (c ∷ rest)
unfolding taken entries
decimal_starts b m c rest h120 h88 =
    by_entry (at_state m there.NumericCharacterReference) (c ∷ rest) (taking (CodeZero ∷ []) (Reconsume there.DecimalCharacterReferenceStart) (c ∷ [])) (λ x. rw (h120, h88) refl) refl

decimal_first : (b : Bool) (m : Machine) (c : ℕ) (rest : List ℕ) → is_digit c ≡ true →
    Goes (coded m there.DecimalCharacterReferenceStart 0) (c ∷ rest) [] (coded m there.DecimalCharacterReference 0) (c ∷ rest)
unfolding taken entries
decimal_first b m c rest is = by_entry (coded m there.DecimalCharacterReferenceStart 0) (c ∷ rest) (taking [] (Reconsume there.DecimalCharacterReference) (c ∷ [])) (λ x. rw is refl) refl

pub decimal_begins : (b : Bool) (m : Machine) (c d : ℕ) (rest : List ℕ) → (c ≡ 120 → ⊥) → (c ≡ 88 → ⊥) → is_digit c ≡ true → c - 0x30 ≡ d →
    Goes (at_state m there.NumericCharacterReference) (c ∷ rest) [] (coded m there.DecimalCharacterReference (0 * 10 + d)) rest
decimal_begins b m c d rest no_x no_X is value =
    then_on (decimal_starts b m c rest (ne_eqb 120 c (λ e. no_x (sym e))) (ne_eqb 88 c (λ e. no_X (sym e)))) (then_on (decimal_first b m c rest is) (decimal_step b m 0 c d rest is value))

-- no digit follows
pub no_decimal : (b : Bool) (m : Machine) (c : ℕ) (rest : List ℕ) → (c ≡ 120 → ⊥) → (c ≡ 88 → ⊥) → is_digit c ≡ false →
    Goes (at_state m there.NumericCharacterReference) (c ∷ rest) (emitted [] Flush (coded m there.DecimalCharacterReferenceStart 0) ++ []) (flushing (coded m there.DecimalCharacterReferenceStart 0)) (c ∷ rest)
unfolding taken entries
no_decimal b m c rest no_x no_X is =
    then_on (decimal_starts b m c rest (ne_eqb 120 c (λ e. no_x (sym e))) (ne_eqb 88 c (λ e. no_X (sym e))))
    (by_entry (coded m there.DecimalCharacterReferenceStart 0) (c ∷ rest) (taking (Flush ∷ []) ReconsumeBack (c ∷ [])) (λ x. rw is refl) refl)

pub no_hexadecimal : (b : Bool) (m : Machine) (c : ℕ) (rest : List ℕ) → IsNoHex c →
    Goes (at_state m there.HexadecimalCharacterReferenceStart) (c ∷ rest) (emitted [] Flush (at_state m there.HexadecimalCharacterReferenceStart) ++ []) (flushing (at_state m there.HexadecimalCharacterReferenceStart)) (c ∷ rest)
unfolding taken entries
no_hexadecimal b m c rest other =
    by_entry (at_state m there.HexadecimalCharacterReferenceStart) (c ∷ rest) (taking (Flush ∷ []) ReconsumeBack (c ∷ [])) (λ x. rw (other.digit, other.upper, other.lower) refl) refl

-- ---- the number ends

abbrev pub numbered : Machine → Machine
numbered m = record m { state = there.NumericCharacterReferenceEnd; buffer = character_of m.code ∷ [] }

abbrev pub EndsNumber : Bool → Machine → List ℕ → List ℕ → Type 0
EndsNumber b m text rest = Goes m text (emitted [] Flush (numbered m) ++ []) (flushing (numbered m)) rest

at_end : (b : Bool) (m : Machine) (text : List ℕ) → Goes (at_state m there.NumericCharacterReferenceEnd) text (emitted [] Flush (numbered m) ++ []) (flushing (numbered m)) text
unfolding taken entries
at_end b m text = by_entry (at_state m there.NumericCharacterReferenceEnd) text (taking (BufferNumber ∷ Flush ∷ []) ReconsumeBack (take 1 text)) (λ x. refl) refl

-- the text behind a number: a semicolon is part of it
abbrev pub behind_number : Bool → ℕ → List ℕ → List ℕ
behind_number closed c rest = cond closed rest (c ∷ rest)

pub hex_ends : (b : Bool) (m : Machine) (c : ℕ) (rest : List ℕ) → IsNoHex c → EndsNumber b (at_state m there.HexadecimalCharacterReference) (c ∷ rest) (behind_number (c == 59) c rest)
unfolding taken entries
hex_ends b m c rest =
    let M : Machine = at_state m there.HexadecimalCharacterReference in
    by_bool (λ e x. IsNoHex e → EndsNumber b M (e ∷ rest) (behind_number x e rest)) c 59
    (λ other. then_on (by_entry M (59 ∷ rest) (taking [] (Switch there.NumericCharacterReferenceEnd) (59 ∷ [])) (λ x. refl) refl) (at_end b m rest))
    (λ h59 other. then_on (by_entry M (c ∷ rest) (taking [] (Reconsume there.NumericCharacterReferenceEnd) (c ∷ [])) (λ x. rw (other.digit, other.upper, other.lower, h59) refl) refl) (at_end b m (c ∷ rest)))

pub decimal_ends : (b : Bool) (m : Machine) (c : ℕ) (rest : List ℕ) → is_digit c ≡ false → EndsNumber b (at_state m there.DecimalCharacterReference) (c ∷ rest) (behind_number (c == 59) c rest)
unfolding taken entries
decimal_ends b m c rest =
    let M : Machine = at_state m there.DecimalCharacterReference in
    by_bool (λ e x. is_digit e ≡ false → EndsNumber b M (e ∷ rest) (behind_number x e rest)) c 59
    (λ other. then_on (by_entry M (59 ∷ rest) (taking [] (Switch there.NumericCharacterReferenceEnd) (59 ∷ [])) (λ x. refl) refl) (at_end b m rest))
    (λ h59 other. then_on (by_entry M (c ∷ rest) (taking [] (Reconsume there.NumericCharacterReferenceEnd) (c ∷ [])) (λ x. rw (other, h59) refl) refl) (at_end b m (c ∷ rest)))
