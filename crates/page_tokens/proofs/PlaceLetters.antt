-- Letters and digits in the states in which a character reference may stand, and in the ambiguous ampersand state.
use Rattle.std.specs.Prelude.{◌≡◌, ℕ, Bool, true, false, ◌==◌, cond, List, [], ◌∷◌, ◌++◌, map, refl}
use Rattle.std.specs.Char.{is_ascii_alphanumeric}
use Rattle.std.specs.List.{list_all}
use Rattle.std.proofs.lemmas.Bool.{and_parts, ne_eqb, true≢false}
use Rattle.std.proofs.lemmas.List.{append-nil, append_assoc, map-append}
use mathlib.Core.Path.{◌∙◌, sym, ap, subst}
use Rattle.standard_tokens.specs.Entries.{Add, AttrValue, Current, Emit, Flush, Stay}
use Rattle.standard_tokens.specs.Machine.{Machine, added, at_state, emitted, is_value, taken, with_value}
use Rattle.standard_tokens.specs.States as there
use Rattle.standard_tokens.specs.States.{State as StandardState}
use Rattle.standard_tokens.specs.Table.{entries}
use Rattle.standard_tokens.specs.Tokens.{Attr, AChar, Token as StandardToken}
use Rattle.page_tokens.specs.Standard.{Goes, stays}
use Rattle.page_tokens.proofs.StandardSteps.{by_entry, taking, then_on}

-- ---- characters at the place of a reference

-- the machine with characters added to the value of the attribute, or as it was
abbrev pub put_if : Bool → List ℕ → Machine → Machine
put_if in_value put m = cond in_value (added AttrValue put m) m

-- the characters that are emitted
abbrev pub shown_if : Bool → List ℕ → List StandardToken
shown_if in_value put = cond in_value [] (map AChar put)

-- in the state, letters and digits are added to the value of the attribute, or emitted
abbrev pub ReadsLetters : Bool → StandardState → Type 0
ReadsLetters in_value s = (b : Bool) (m : Machine) (c : ℕ) (rest : List ℕ) → is_value m.return_state ≡ in_value → is_ascii_alphanumeric c ≡ true →
    Goes (at_state m s) (c ∷ rest) (shown_if in_value (c ∷ [])) (at_state (put_if in_value (c ∷ []) m) s) rest

with_nothing : (attrs : List Attr) → with_value attrs [] ≡ attrs
with_nothing [] = refl
with_nothing (a ∷ attrs) = ap (λ (v : List ℕ). record a { value = v } ∷ attrs) (append-nil a.value)

with_twice : (attrs : List Attr) (xs ys : List ℕ) → with_value (with_value attrs xs) ys ≡ with_value attrs (xs ++ ys)
with_twice [] xs ys = refl
with_twice (a ∷ attrs) xs ys = ap (λ (v : List ℕ). record a { value = v } ∷ attrs) (append_assoc a.value xs ys)

added_nothing : (m : Machine) → added AttrValue [] m ≡ m
added_nothing m = ap (λ (attrs : List Attr). record m { tag = record m.tag { attrs = attrs } }) (with_nothing m.tag.attrs)

added_twice : (m : Machine) (xs ys : List ℕ) → added AttrValue ys (added AttrValue xs m) ≡ added AttrValue (xs ++ ys) m
added_twice m xs ys = ap (λ (attrs : List Attr). record m { tag = record m.tag { attrs = attrs } }) (with_twice m.tag.attrs xs ys)

-- letters and digits, one after the other
pub letters_run : (in_value : Bool) (s : StandardState) → ReadsLetters in_value s → (b : Bool) (m : Machine) (text rest : List ℕ) → is_value m.return_state ≡ in_value → list_all is_ascii_alphanumeric text ≡ true →
    Goes (at_state m s) (text ++ rest) (shown_if in_value text) (at_state (put_if in_value text m) s) rest
letters_run true s one b m [] rest e all = subst (λ k. Goes (at_state m s) rest [] (at_state k s) rest) (sym (added_nothing m)) stays
letters_run true s one b m (c ∷ text) rest e all =
    let parts : (is_ascii_alphanumeric c ≡ true) × (list_all is_ascii_alphanumeric text ≡ true) = and_parts (is_ascii_alphanumeric c) (list_all is_ascii_alphanumeric text) all in
    subst (λ k. Goes (at_state m s) (c ∷ (text ++ rest)) [] (at_state k s) rest) (added_twice m (c ∷ []) text)
    (then_on (one b m c (text ++ rest) e parts.0) (letters_run true s one b (added AttrValue (c ∷ []) m) text rest e parts.1))
letters_run false s one b m [] rest e all = stays
letters_run false s one b m (c ∷ text) rest e all =
    let parts : (is_ascii_alphanumeric c ≡ true) × (list_all is_ascii_alphanumeric text ≡ true) = and_parts (is_ascii_alphanumeric c) (list_all is_ascii_alphanumeric text) all in
    then_on (one b m c (text ++ rest) e parts.0) (letters_run false s one b m text rest e parts.1)

-- after the end of a reference: its buffer is put, and then letters and digits are read
pub letters_behind : (in_value : Bool) (s : StandardState) → ReadsLetters in_value s → (b : Bool) (m k : Machine) (text after rest : List ℕ) → is_value k.return_state ≡ in_value → list_all is_ascii_alphanumeric after ≡ true →
    Goes m text (emitted [] Flush k ++ []) (at_state (put_if (is_value k.return_state) k.buffer k) s) (after ++ rest) →
    Goes m text (shown_if (is_value k.return_state) (k.buffer ++ after)) (at_state (put_if (is_value k.return_state) (k.buffer ++ after) k) s) rest
letters_behind in_value s one b m k text after rest e all goes =
    subst (λ x. Goes m text (shown_if x (k.buffer ++ after)) (at_state (put_if x (k.buffer ++ after) k) s) rest) (sym e)
    (go in_value e one (subst (λ x. Goes m text (shown_if x k.buffer ++ []) (at_state (put_if x k.buffer k) s) (after ++ rest)) e goes))
  where
    go : (x : Bool) → is_value k.return_state ≡ x → ReadsLetters x s → Goes m text (shown_if x k.buffer ++ []) (at_state (put_if x k.buffer k) s) (after ++ rest) →
        Goes m text (shown_if x (k.buffer ++ after)) (at_state (put_if x (k.buffer ++ after) k) s) rest
    go true e one goes =
        subst (λ n. Goes m text [] (at_state n s) rest) (added_twice k k.buffer after) (then_on goes (letters_run true s one b (added AttrValue k.buffer k) after rest e all))
    go false e one goes =
        subst (λ ts. Goes m text ts (at_state k s) rest) (ap (λ ts. ts ++ map AChar after) (append-nil (map AChar k.buffer)) ∙ sym (map-append AChar k.buffer after))
        (then_on goes (letters_run false s one b k after rest e all))

-- ---- in the states

other_than : (k c : ℕ) → is_ascii_alphanumeric k ≡ false → is_ascii_alphanumeric c ≡ true → (k == c) ≡ false
other_than k c none letter = ne_eqb k c (λ e. true≢false (sym letter ∙ ap is_ascii_alphanumeric (sym e) ∙ none))

pub data_letters : ReadsLetters false there.Data
unfolding taken entries
data_letters b m c rest e letter =
    by_entry (at_state m there.Data) (c ∷ rest) (taking (Emit Current ∷ []) Stay (c ∷ [])) (λ x. rw (other_than 38 c refl letter, other_than 60 c refl letter, other_than 0 c refl letter) refl) refl

pub rcdata_letters : ReadsLetters false there.RCDATA
unfolding taken entries
rcdata_letters b m c rest e letter =
    by_entry (at_state m there.RCDATA) (c ∷ rest) (taking (Emit Current ∷ []) Stay (c ∷ [])) (λ x. rw (other_than 38 c refl letter, other_than 60 c refl letter, other_than 0 c refl letter) refl) refl

pub double_letters : ReadsLetters true there.AttributeValueDoubleQuoted
unfolding taken entries
double_letters b m c rest e letter =
    by_entry (at_state m there.AttributeValueDoubleQuoted) (c ∷ rest) (taking (Add AttrValue Current ∷ []) Stay (c ∷ [])) (λ x. rw (other_than 34 c refl letter, other_than 38 c refl letter, other_than 0 c refl letter) refl) refl

pub single_letters : ReadsLetters true there.AttributeValueSingleQuoted
unfolding taken entries
single_letters b m c rest e letter =
    by_entry (at_state m there.AttributeValueSingleQuoted) (c ∷ rest) (taking (Add AttrValue Current ∷ []) Stay (c ∷ [])) (λ x. rw (other_than 39 c refl letter, other_than 38 c refl letter, other_than 0 c refl letter) refl) refl

pub unquoted_letters : ReadsLetters true there.AttributeValueUnquoted
unfolding taken entries
unquoted_letters b m c rest e letter =
    by_entry (at_state m there.AttributeValueUnquoted) (c ∷ rest) (taking (Add AttrValue Current ∷ []) Stay (c ∷ []))
    (λ x. rw (other_than 9 c refl letter, other_than 10 c refl letter, other_than 12 c refl letter, other_than 32 c refl letter, other_than 38 c refl letter, other_than 62 c refl letter, other_than 0 c refl letter) refl) refl
