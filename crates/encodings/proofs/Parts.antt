-- What each function of the code gives, by the definitions.
use Rattle.std.proofs.Common.{◌≡◌, ℕ, ◌+◌, ◌<◌, ◌≤◌, List, [], ◌∷◌, ◌++◌, Bool, true, false, not, ◌==◌, length, take, drop, map, arith, refl, sym, ap, ◌∙◌, add-one, Bor, Option, Some, None}
use Rattle.std.specs.Prelude.{bytes_eq, codes}
use Rattle.std.specs.Option.{option_map}
use Rattle.std.specs.Char.{to_ascii_lowercase}
use Rattle.std.proofs.Math.Seq.{take-append_seam}
use Rattle.std.proofs.lemmas.List.{at_drop_all, at_drop_more}
use Rattle.std.proofs.lemmas.Slice.Eq.{bytes_eq-Decides}
use Rattle.encodings.specs.Attributes.{Got, at_equals, at_name, at_value, bare_value, behind_charset, behind_equals, get_attribute, label_at, label_in, label_or, quoted_value}
use Rattle.encodings.specs.Bytes.{after_while, begins, begins_with_word, behind_front, cut_at, ends_label, ends_name, ends_value, front_while, in_quotes, is_quote, is_space, is_space_or_slash}
use Rattle.encodings.proofs.Cuts.{parts}

abbrev Cut : Type 0
Cut = Option (Bor (List ℕ) × Bor (List ℕ))

abbrev now_both : Cut → Option (List ℕ × List ℕ)
now_both cut = option_map (λ c. (c.0.now, c.1.now)) cut

empty : (bytes : List ℕ) → length bytes ≡ 0 → bytes ≡ []
empty [] h = refl
empty (byte ∷ rest) h = absurd (omega arith)

-- ---- cuts

pub cut_found : (byte : ℕ) (bytes front rest behind : List ℕ) (first : ℕ) → front ≡ front_while (λ each. not (each == byte)) bytes → rest ≡ after_while (λ each. not (each == byte)) bytes →
    rest ≡ first ∷ behind → Some (front, behind) ≡ cut_at byte bytes
unfolding cut_at
cut_found byte bytes front rest behind first is after parts =
    ap (λ f. behind_front f (first ∷ behind)) is ∙ ap (behind_front (front_while (λ each. not (each == byte)) bytes)) (sym parts ∙ after)

pub cut_nowhere : (byte : ℕ) (bytes rest : List ℕ) → rest ≡ after_while (λ each. not (each == byte)) bytes → length rest ≡ 0 → None ≡ cut_at byte bytes
unfolding cut_at
cut_nowhere byte bytes rest after none = ap (behind_front (front_while (λ each. not (each == byte)) bytes)) (sym (empty rest none) ∙ after)

pub quotes_found : (quote : ℕ) (bytes rest : List ℕ) (found : Option (List ℕ × List ℕ)) → bytes ≡ quote ∷ rest → is_quote quote ≡ true → found ≡ cut_at quote rest → found ≡ in_quotes bytes
unfolding in_quotes
quotes_found quote bytes rest found is quoted cut =
    let here : in_quotes (quote ∷ rest) ≡ cut_at quote rest = rw quoted refl in
    cut ∙ sym here ∙ ap in_quotes (sym is)

pub quotes_not : (quote : ℕ) (bytes rest : List ℕ) → bytes ≡ quote ∷ rest → is_quote quote ≡ false → None ≡ in_quotes bytes
unfolding in_quotes
quotes_not quote bytes rest is bare =
    let here : in_quotes (quote ∷ rest) ≡ None = rw bare refl in
    sym here ∙ ap in_quotes (sym is)

pub quotes_nothing : (bytes : List ℕ) → length bytes ≡ 0 → None ≡ in_quotes bytes
unfolding in_quotes
quotes_nothing bytes none = ap in_quotes (sym (empty bytes none))

-- ---- values

quoted_is : (name : List ℕ) (cut : Cut) → option_map (λ got. (Some (name, got.0.now), got.1.now)) cut ≡ quoted_value name (now_both cut)
quoted_is name None = refl
quoted_is name (Some cut) = refl

pub value_quoted : (name bytes : List ℕ) (cut : Cut) → begins is_quote bytes ≡ true → now_both cut ≡ in_quotes bytes → option_map (λ got. (Some (name, got.0.now), got.1.now)) cut ≡ at_value name bytes
unfolding at_value
value_quoted name bytes cut quote is =
    let here : at_value name bytes ≡ quoted_value name (in_quotes bytes) = rw quote refl in
    quoted_is name cut ∙ ap (quoted_value name) is ∙ sym here

abbrev in_value : ℕ → Bool
in_value byte = not (ends_value byte)

bare_is : (name bytes : List ℕ) → begins is_quote bytes ≡ false → at_value name bytes ≡ bare_value name (front_while in_value bytes) (after_while in_value bytes)
unfolding at_value
bare_is name bytes bare = rw bare refl

pub value_bare : (name bytes front rest others : List ℕ) (first : ℕ) → begins is_quote bytes ≡ false → front ≡ front_while in_value bytes → rest ≡ after_while in_value bytes → rest ≡ first ∷ others →
    Some (Some (name, front), rest) ≡ at_value name bytes
value_bare name bytes front rest others first bare is after parts =
    ap (λ r. Some (Some (name, front), r)) parts ∙ ap (λ f. bare_value name f (first ∷ others)) is
    ∙ ap (bare_value name (front_while in_value bytes)) (sym parts ∙ after) ∙ sym (bare_is name bytes bare)

pub value_cut : (name bytes rest : List ℕ) → begins is_quote bytes ≡ false → rest ≡ after_while in_value bytes → length rest ≡ 0 → None ≡ at_value name bytes
value_cut name bytes rest bare after none =
    ap (bare_value name (front_while in_value bytes)) (sym (empty rest none) ∙ after) ∙ sym (bare_is name bytes bare)

pub equals_found : (name bytes others skipped : List ℕ) (first : ℕ) (found : Got) → bytes ≡ first ∷ others → (first == 0x3D) ≡ true → skipped ≡ after_while is_space others →
    found ≡ at_value name skipped → found ≡ at_equals name bytes
unfolding at_equals
equals_found name bytes others skipped first found is equals spaces value =
    let here : at_equals name (first ∷ others) ≡ at_value name (after_while is_space others) = rw equals refl in
    value ∙ ap (at_value name) spaces ∙ sym here ∙ ap (at_equals name) (sym is)

pub equals_other : (name bytes others : List ℕ) (first : ℕ) → bytes ≡ first ∷ others → (first == 0x3D) ≡ false → Some (Some (name, []), bytes) ≡ at_equals name bytes
unfolding at_equals
equals_other name bytes others first is other =
    let here : at_equals name (first ∷ others) ≡ Some (Some (name, []), first ∷ others) = rw other refl in
    ap (λ r. Some (Some (name, []), r)) is ∙ sym here ∙ ap (at_equals name) (sym is)

pub equals_nothing : (name bytes : List ℕ) → length bytes ≡ 0 → None ≡ at_equals name bytes
unfolding at_equals
equals_nothing name bytes none = ap (at_equals name) (sym (empty bytes none))

-- ---- attributes

abbrev in_name : ℕ → Bool
in_name byte = not (ends_name byte)

front_taken : (p : ℕ → Bool) (bytes front : List ℕ) → front ≡ front_while p bytes → take (length front) bytes ≡ front
front_taken p bytes front is =
    ap (take (length front)) (parts p bytes ∙ ap (λ f. f ++ after_while p bytes) (sym is)) ∙ take-append_seam front (after_while p bytes)

pub name_is : (rest others inner name : List ℕ) (first : ℕ) → rest ≡ first ∷ others → inner ≡ front_while in_name others → name ≡ take (length inner + 1) rest → name ≡ first ∷ front_while in_name others
name_is rest others inner name first is run taken =
    taken ∙ ap (take (length inner + 1)) is ∙ ap (λ n. take n (first ∷ others)) (add-one (length inner)) ∙ ap (λ r. first ∷ r) (front_taken in_name others inner run ∙ run)

pub name_found : (bytes rest others name from_end skipped : List ℕ) (first : ℕ) (found : Got) → rest ≡ after_while is_space_or_slash bytes → rest ≡ first ∷ others → (first == 0x3E) ≡ false →
    name ≡ first ∷ front_while in_name others → from_end ≡ after_while in_name others → skipped ≡ after_while is_space from_end → found ≡ at_equals name skipped → found ≡ get_attribute bytes
unfolding get_attribute at_name
name_found bytes rest others name from_end skipped first found spaces is other run end blanks value =
    let here : at_name (first ∷ others) ≡ at_equals (first ∷ front_while in_name others) (after_while is_space (after_while in_name others)) = rw other refl in
    value ∙ ap (λ n. at_equals n skipped) run ∙ ap (at_equals (first ∷ front_while in_name others)) (blanks ∙ ap (after_while is_space) end) ∙ sym here ∙ ap at_name (sym is ∙ spaces)

pub name_end : (bytes rest others : List ℕ) (first : ℕ) → rest ≡ after_while is_space_or_slash bytes → rest ≡ first ∷ others → (first == 0x3E) ≡ true → Some (None, rest) ≡ get_attribute bytes
unfolding get_attribute at_name
name_end bytes rest others first spaces is end =
    let here : at_name (first ∷ others) ≡ Some (None, first ∷ others) = rw end refl in
    ap (λ r. Some (None, r)) is ∙ sym here ∙ ap at_name (sym is ∙ spaces)

pub name_nothing : (bytes rest : List ℕ) → rest ≡ after_while is_space_or_slash bytes → length rest ≡ 0 → None ≡ get_attribute bytes
unfolding get_attribute at_name
name_nothing bytes rest spaces none = ap at_name (sym (empty rest none) ∙ spaces)

-- ---- labels

pub charset_not : (bytes : List ℕ) → begins_with_word (codes "charset") bytes ≡ false → None ≡ behind_charset bytes
unfolding behind_charset
charset_not bytes other = rw other refl

pub charset_found : (bytes rest skipped : List ℕ) (found : Option (List ℕ)) → begins_with_word (codes "charset") bytes ≡ true → rest ≡ drop 7 bytes → skipped ≡ after_while is_space rest →
    found ≡ behind_equals skipped → found ≡ behind_charset bytes
unfolding behind_charset
charset_found bytes rest skipped found word seven spaces is =
    let here : behind_charset bytes ≡ behind_equals (after_while is_space (drop 7 bytes)) = rw word refl in
    is ∙ ap behind_equals (spaces ∙ ap (after_while is_space) seven) ∙ sym here

pub label_quoted : (bytes : List ℕ) (found : Option (List ℕ)) → begins is_quote bytes ≡ true → found ≡ option_map (λ cut. cut.0) (in_quotes bytes) → found ≡ label_at bytes
unfolding label_at
label_quoted [] found quote is = absurd (no_quote quote)
  where
    no_quote : begins is_quote [] ≡ true → ⊥
    no_quote h = cc
label_quoted (byte ∷ rest) found quote is =
    let here : label_at (byte ∷ rest) ≡ option_map (λ cut. cut.0) (in_quotes (byte ∷ rest)) = rw quote refl in
    is ∙ sym here

pub label_bare : (bytes rest label : List ℕ) (first : ℕ) → begins is_quote bytes ≡ false → bytes ≡ first ∷ rest → label ≡ front_while (λ each. not (ends_label each)) bytes → Some label ≡ label_at bytes
unfolding label_at
label_bare bytes rest label first bare is run =
    let bare_first : is_quote first ≡ false = sym (ap (begins is_quote) is) ∙ bare in
    let here : label_at (first ∷ rest) ≡ Some (front_while (λ each. not (ends_label each)) (first ∷ rest)) = rw bare_first refl in
    ap (λ l. Some l) (run ∙ ap (front_while (λ each. not (ends_label each))) is) ∙ sym here ∙ ap label_at (sym is)

pub label_nothing : (bytes : List ℕ) → length bytes ≡ 0 → None ≡ label_at bytes
unfolding label_at
label_nothing bytes none = ap label_at (sym (empty bytes none))

at_label : (content : List ℕ) (i : ℕ) → i < length content → label_in (drop i content) ≡ label_or (behind_charset (drop i content)) (label_in (drop (i + 1) content))
unfolding label_in
at_label content i h =
    at_drop_more label_in content i 0 h ∙ ap (λ here. label_or (behind_charset here) (label_in (drop (i + 1) content))) (sym (at_drop_more (λ xs. xs) content i 0 h))

pub label_later : (content rest : List ℕ) (i : ℕ) → i < length content → rest ≡ drop i content → None ≡ behind_charset rest → label_in (drop (i + 1) content) ≡ label_in (drop i content)
label_later content rest i h is none = sym (at_label content i h ∙ ap (λ found. label_or found (label_in (drop (i + 1) content))) (ap behind_charset (sym is) ∙ sym none))

pub label_here : (content rest value skipped : List ℕ) (i : ℕ) (found : Option (List ℕ)) → i < length content → rest ≡ drop i content → Some value ≡ behind_charset rest →
    skipped ≡ after_while is_space value → found ≡ label_at skipped → found ≡ label_in (drop i content)
label_here content rest value skipped i found h is some spaces label =
    label ∙ ap label_at spaces
    ∙ sym (at_label content i h ∙ ap (λ charset. label_or charset (label_in (drop (i + 1) content))) (ap behind_charset (sym is) ∙ sym some))

pub label_nowhere : (content : List ℕ) (i : ℕ) → length content ≤ i → label_in (drop i content) ≡ label_in content → None ≡ label_in content
unfolding label_in
label_nowhere content i h so_far = sym (at_drop_all label_in content i h) ∙ so_far

-- ---- words

pub word_is : (name word : List ℕ) (b : Bool) → b ≡ bytes_eq (map to_ascii_lowercase name) word → b ≡ true → map to_ascii_lowercase name ≡ word
word_is name word b is holds = (bytes_eq-Decides (map to_ascii_lowercase name) word).0 (sym is ∙ holds)
