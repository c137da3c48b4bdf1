-- What letters and digits behind an ampersand do, in the standard.
use Rattle.std.specs.Prelude.{◌≡◌, ℕ, Bool, true, false, ◌==◌, ◌&&◌, nat_le, List, [], ◌∷◌, ◌++◌, codes, refl}
use Rattle.std.proofs.Common.{arith}
use Rattle.std.specs.Char.{is_ascii_alphanumeric}
use Rattle.standard_tokens.specs.Entries.{Add, AttrValue, Buffer, Current, Emit, Flush, SetEmpty, These, Stay, Switch, Reconsume, ReconsumeBack}
use Rattle.standard_tokens.specs.Machine.{Machine, added, at_state, emitted, is_value, taken}
use Rattle.standard_tokens.specs.States as there
use Rattle.standard_tokens.specs.Table.{entries}
use Rattle.standard_tokens.specs.Tokens.{AChar}
use Rattle.page_tokens.specs.Standard.{Goes}
use Rattle.page_tokens.proofs.ReferenceEnds.{flushing}
use Rattle.page_tokens.proofs.NumberSteps.{is_digit}
use Rattle.page_tokens.proofs.StandardSteps.{by_bool, by_entry, taking}

-- ---- letters and digits

abbrev pub is_upper : ℕ → Bool
is_upper c = nat_le 0x41 c && nat_le c 0x5a

abbrev pub is_lower : ℕ → Bool
is_lower c = nat_le 0x61 c && nat_le c 0x7a

pub data Letter (c : ℕ) : Type 0 where
  digit : is_digit c ≡ true → Letter c
  upper : is_digit c ≡ false → is_upper c ≡ true → Letter c
  lower : is_digit c ≡ false → is_upper c ≡ false → is_lower c ≡ true → Letter c

pub letter_of : (c : ℕ) → is_ascii_alphanumeric c ≡ true → Letter c
letter_of c h = go (is_digit c) (is_upper c) refl refl
  where
    go : (a b : Bool) → is_digit c ≡ a → is_upper c ≡ b → Letter c
    go true b is other = digit is
    go false true other is = upper other is
    go false false other none = lower other none (grind arith)

pub record IsNoLetter (c : ℕ) : Type 0 where
  pub digit : is_digit c ≡ false
  pub upper : is_upper c ≡ false
  pub lower : is_lower c ≡ false

pub no_letter_of : (c : ℕ) → is_ascii_alphanumeric c ≡ false → IsNoLetter c
no_letter_of c h = record { digit = grind arith; upper = grind arith; lower = grind arith }

-- ---- in the ambiguous ampersand state

abbrev pub ambiguous : Machine → Machine
ambiguous m = at_state m there.AmbiguousAmpersand

pub value_letter : (b : Bool) (m : Machine) (c : ℕ) (rest : List ℕ) → is_value m.return_state ≡ true → Letter c →
    Goes (ambiguous m) (c ∷ rest) [] (ambiguous (added AttrValue (c ∷ []) m)) rest
unfolding taken entries
value_letter b m c rest value (digit is) = by_entry (ambiguous m) (c ∷ rest) (taking (Add AttrValue Current ∷ []) Stay (c ∷ [])) (λ x. rw (is, value) refl) refl
value_letter b m c rest value (upper other is) = by_entry (ambiguous m) (c ∷ rest) (taking (Add AttrValue Current ∷ []) Stay (c ∷ [])) (λ x. rw (other, is, value) refl) refl
value_letter b m c rest value (lower other none is) = by_entry (ambiguous m) (c ∷ rest) (taking (Add AttrValue Current ∷ []) Stay (c ∷ [])) (λ x. rw (other, none, is, value) refl) refl

pub text_letter : (b : Bool) (m : Machine) (c : ℕ) (rest : List ℕ) → is_value m.return_state ≡ false → Letter c → Goes (ambiguous m) (c ∷ rest) (AChar c ∷ []) (ambiguous m) rest
unfolding taken entries
text_letter b m c rest value (digit is) = by_entry (ambiguous m) (c ∷ rest) (taking (Emit Current ∷ []) Stay (c ∷ [])) (λ x. rw (is, value) refl) refl
text_letter b m c rest value (upper other is) = by_entry (ambiguous m) (c ∷ rest) (taking (Emit Current ∷ []) Stay (c ∷ [])) (λ x. rw (other, is, value) refl) refl
text_letter b m c rest value (lower other none is) = by_entry (ambiguous m) (c ∷ rest) (taking (Emit Current ∷ []) Stay (c ∷ [])) (λ x. rw (other, none, is, value) refl) refl

pub ambiguous_ends : (b : Bool) (m : Machine) (c : ℕ) (rest : List ℕ) → IsNoLetter c → Goes (ambiguous m) (c ∷ rest) [] (at_state m m.return_state) (c ∷ rest)
unfolding taken entries
ambiguous_ends b m c rest other =
    by_bool (λ e x. IsNoLetter e → Goes (ambiguous m) (e ∷ rest) [] (at_state m m.return_state) (e ∷ rest)) c 59
    (λ other. by_entry (ambiguous m) (59 ∷ rest) (taking [] ReconsumeBack (59 ∷ [])) (λ x. refl) refl)
    (λ h59 other. by_entry (ambiguous m) (c ∷ rest) (taking [] ReconsumeBack (c ∷ [])) (λ x. rw (other.digit, other.upper, other.lower, h59) refl) refl) other

-- ---- behind an ampersand

abbrev pub with_ampersand : Machine → Machine
with_ampersand m = record m { state = there.CharacterReference; buffer = codes "&" }

pub number_begins : (b : Bool) (m : Machine) (rest : List ℕ) →
    Goes (at_state m there.CharacterReference) (35 ∷ rest) [] (record m { state = there.NumericCharacterReference; buffer = codes "&#" }) rest
unfolding taken entries
number_begins b m rest =
    by_entry (at_state m there.CharacterReference) (35 ∷ rest) (taking (SetEmpty Buffer ∷ Add Buffer (These (codes "&")) ∷ Add Buffer Current ∷ []) (Switch there.NumericCharacterReference) (35 ∷ [])) (λ x. refl) refl

pub name_begins : (b : Bool) (m : Machine) (c : ℕ) (rest : List ℕ) → Letter c →
    Goes (at_state m there.CharacterReference) (c ∷ rest) [] (record m { state = there.NamedCharacterReference; buffer = codes "&" }) (c ∷ rest)
unfolding taken entries
name_begins b m c rest (digit is) =
    by_entry (at_state m there.CharacterReference) (c ∷ rest) (taking (SetEmpty Buffer ∷ Add Buffer (These (codes "&")) ∷ []) (Reconsume there.NamedCharacterReference) (c ∷ [])) (λ x. rw is refl) refl
name_begins b m c rest (upper other is) =
    by_entry (at_state m there.CharacterReference) (c ∷ rest) (taking (SetEmpty Buffer ∷ Add Buffer (These (codes "&")) ∷ []) (Reconsume there.NamedCharacterReference) (c ∷ [])) (λ x. rw (other, is) refl) refl
name_begins b m c rest (lower other none is) =
    by_entry (at_state m there.CharacterReference) (c ∷ rest) (taking (SetEmpty Buffer ∷ Add Buffer (These (codes "&")) ∷ []) (Reconsume there.NamedCharacterReference) (c ∷ [])) (λ x. rw (other, none, is) refl) refl

pub no_reference : (b : Bool) (m : Machine) (c : ℕ) (rest : List ℕ) → IsNoLetter c → (35 == c) ≡ false →
    Goes (at_state m there.CharacterReference) (c ∷ rest) (emitted [] Flush (with_ampersand m) ++ []) (flushing (with_ampersand m)) (c ∷ rest)
unfolding taken entries
no_reference b m c rest other h35 =
    by_entry (at_state m there.CharacterReference) (c ∷ rest) (taking (SetEmpty Buffer ∷ Add Buffer (These (codes "&")) ∷ Flush ∷ []) ReconsumeBack (c ∷ [])) (λ x. rw (other.digit, other.upper, other.lower, h35) refl) refl
