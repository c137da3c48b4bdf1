-- What a text in UTF-8 spells has texts in UTF-8.
use Rattle.std.proofs.Common.{◌≡◌, ◌≢◌, ℕ, zero, suc, ◌+◌, ◌*◌, ◌==◌, ◌<◌, ◌≤◌, Bool, true, false, not, List, [], ◌∷◌, ◌++◌, length, length-append, length-drop, drop, get_or, Option, None, Some, refl, sym, ap, ◌∙◌, subst, arith, append_assoc, append-nil, inl, inr}
use Rattle.std.specs.Prelude.{codes, nat_lt, ◌||◌, ◌&&◌, ◌⊎◌, unwrap_or}
use Rattle.std.specs.Char.{to_ascii_lowercase, encode_utf8, digit_value}
use Rattle.std.specs.List.{list_all}
use Rattle.std.specs.Str.{IsUtf8, encode_utf8_all, all_scalars, IsCharBoundary}
use Rattle.std.proofs.Math.Seq.{take-append_seam, drop-append_seam, get_or-append_seam}
use Rattle.std.proofs.lemmas.Bool.{cases_Bool, cases_lt, and_parts, and_from, true≢false, ne_eqb, eqb-true, le-ltb, lt-ltb}
use Rattle.std.proofs.lemmas.Bool.Decides.{when_true, when_false}
use Rattle.std.proofs.lemmas.List.{nil_from_length}
use Rattle.std.proofs.lemmas.Str.{length-encode, len_utf8_bounds, encode_ascii, IsUtf8-nil, IsUtf8-append, IsUtf8-take, IsUtf8-drop, IsUtf8-past_char, IsCharBoundary-before_ascii}
use Rattle.dom_markup.specs.Bytes.{is_name_byte, is_whitespace, folded}
use Rattle.dom_nodes.specs.Words.{is_among}
use Rattle.dom_markup.specs.Names.{markup, text_of, raw_text_of, mode_in, void_names, raw_names, text_names}
use Rattle.dom_markup.specs.References.{decoded, decoded_after, reference, numeral, is_numbered, begins}
use Rattle.dom_markup.specs.declared.references.Reference.{Reference}
use Rattle.dom_markup.specs.ValueTrees.{Attribute, ValueTrees}
use Rattle.dom_markup.specs.ValueTrees.ValueTrees.{no_trees, text_node, comment_node, doctype_node, element_node}
use Rattle.dom_markup.specs.Markup.{Item, Fails, IsSpace, after_space, is_bare_byte, BeginsValue, begins_equals, HasValue, BeginsAttribute, Closes, EndsTag, has_name, kept_after, BeginsStart, BeginsEnd, text_front, EndsAtTag, EndsAtMark, BeginsQuoted, BeginsWord, BeginsIdentifiers, BeginsDoctype, SpellsItemsUpTo, items_of, AreInPlace, Spells}
use Rattle.dom_markup.specs.Markup.Item.{end_tag as the_end}
use Rattle.dom_markup.proofs.grammar.ReferenceLemmas.{bare, reference-boundary}
use Rattle.dom_markup.proofs.html.ReadBack.{decoded-char}
use Rattle.dom_markup.proofs.plain.WrittenTrees.{void_not_raw, void_not_text}
use Rattle.dom_markup.proofs.plain.PlainRead.{ValuesAreUtf8, TextsAreUtf8, small_name, no_second, front_ends}

-- ---- references read

named_scalar : (named found : Reference) → all_scalars (named.character ∷ []) ≡ true → Some named ≡ Some found → all_scalars (found.character ∷ []) ≡ true
named_scalar named found is same = let e : named ≡ found = cc in subst (λ (r : Reference). all_scalars (r.character ∷ []) ≡ true) e is

numeral_scalar : (base so_far count : ℕ) (bytes : List ℕ) (found : Reference) → numeral base so_far count bytes ≡ Some found → all_scalars (found.character ∷ []) ≡ true
numeral_scalar base so_far count [] found is = absurd (cc)
numeral_scalar base so_far count (b ∷ rest) found is = by_byte (b == 59) (is_numbered so_far) (nat_lt (digit_value b) base) refl refl refl (numeral_scalar base (so_far * base + digit_value b) (count + 1) rest found)
  where
    by_byte : (x y z : Bool) → (b == 59) ≡ x → is_numbered so_far ≡ y → nat_lt (digit_value b) base ≡ z →
        (numeral base (so_far * base + digit_value b) (count + 1) rest ≡ Some found → all_scalars (found.character ∷ []) ≡ true) → all_scalars (found.character ∷ []) ≡ true
    by_byte true true z p q r more =
        let scalar = and_parts (all_scalars (so_far ∷ [])) (not (so_far == 0)) (and_parts (all_scalars (so_far ∷ []) && not (so_far == 0)) _ q).0 in
        named_scalar (record { character = so_far; len = count + 1 }) found scalar.0 (rw (p, q) at is)
    by_byte true false z p q r more = let no : None ≡ Some found = rw (p, q) at is in absurd (cc)
    by_byte false y true p q r more = more (rw (p, r) at is)
    by_byte false y false p q r more = let no : None ≡ Some found = rw (p, r) at is in absurd (cc)

reference_scalar : (after : List ℕ) (found : Reference) → reference after ≡ Some found → all_scalars (found.character ∷ []) ≡ true
reference_scalar after found is =
    by_name (begins after (codes "amp;")) (begins after (codes "lt;")) (begins after (codes "gt;")) (begins after (codes "quot;")) (begins after (codes "nbsp;")) (begins after (codes "#x") || begins after (codes "#X")) (begins after (codes "#")) refl refl refl refl refl refl refl
  where
    by_name : (t u v w x y z : Bool) → begins after (codes "amp;") ≡ t → begins after (codes "lt;") ≡ u → begins after (codes "gt;") ≡ v → begins after (codes "quot;") ≡ w → begins after (codes "nbsp;") ≡ x →
        (begins after (codes "#x") || begins after (codes "#X")) ≡ y → begins after (codes "#") ≡ z → all_scalars (found.character ∷ []) ≡ true
    by_name true u v w x y z a b c d e f g = named_scalar (record { character = 38; len = 4 }) found refl (rw a at is)
    by_name false true v w x y z a b c d e f g = named_scalar (record { character = 60; len = 3 }) found refl (rw (a, b) at is)
    by_name false false true w x y z a b c d e f g = named_scalar (record { character = 62; len = 3 }) found refl (rw (a, b, c) at is)
    by_name false false false true x y z a b c d e f g = named_scalar (record { character = 34; len = 5 }) found refl (rw (a, b, c, d) at is)
    by_name false false false false true y z a b c d e f g = named_scalar (record { character = 160; len = 5 }) found refl (rw (a, b, c, d, e) at is)
    by_name false false false false false true z a b c d e f g = numeral_scalar 16 0 2 (drop 2 after) found (rw (a, b, c, d, e, f) at is)
    by_name false false false false false false true a b c d e f g = numeral_scalar 10 0 1 (drop 1 after) found (rw (a, b, c, d, e, f, g) at is)
    by_name false false false false false false false a b c d e f g = let no : None ≡ Some found = rw (a, b, c, d, e, f, g) at is in absurd (cc)

after-drop : (n : ℕ) (bytes : List ℕ) → decoded_after n bytes ≡ decoded (drop n bytes)
after-drop zero bytes = refl
after-drop (suc n) [] = refl
after-drop (suc n) (b ∷ bytes) = after-drop n bytes

utf8_char : (c : ℕ) → all_scalars (c ∷ []) ≡ true → IsUtf8 (encode_utf8 c)
utf8_char c is = (c ∷ [], (is, append-nil (encode_utf8 c)))

utf8_past : (rest : List ℕ) (found : Reference) → IsUtf8 rest → reference rest ≡ Some found → (n : ℕ) → found.len ≡ n → IsUtf8 (drop n rest)
utf8_past rest found utf8 is zero len = utf8
utf8_past rest found utf8 is (suc n) len = IsUtf8-drop rest (suc n) utf8 (subst (IsCharBoundary rest) len (reference-boundary rest found utf8 (sym (ap (λ r. unwrap_or r bare) is)) (omega (arith, len))))

-- the text of one character and of what follows it, where what is shorter is known
utf8_step : (most c : ℕ) (cs : List ℕ) → all_scalars (c ∷ []) ≡ true → all_scalars cs ≡ true → length (encode_utf8 c ++ encode_utf8_all cs) ≤ suc most →
    ((text : List ℕ) → IsUtf8 text → length text ≤ most → IsUtf8 (decoded text)) → (a : Bool) (r : Option Reference) → (c == 38) ≡ a → reference (encode_utf8_all cs) ≡ r → IsUtf8 (decoded (encode_utf8 c ++ encode_utf8_all cs))
unfolding encode_utf8
utf8_step most c cs first others few more false r p q =
    let rest = encode_utf8_all cs in
    let short : length rest ≤ most = omega (arith, length-append (encode_utf8 c) rest, length-encode c, (len_utf8_bounds c).0) in
    subst IsUtf8 (sym (decoded-char c rest p)) (IsUtf8-append (encode_utf8 c) (decoded rest) (utf8_char c first) (more rest (cs, (others, refl)) short))
utf8_step most c cs first others few more true None p q =
    let rest = encode_utf8_all cs in
    let short : length rest ≤ most = omega (arith, length-append (encode_utf8 c) rest, length-encode c, (len_utf8_bounds c).0) in
    let is : c ≡ 38 = eqb-true c 38 p in
    let whole : decoded (encode_utf8 c ++ rest) ≡ encode_utf8 38 ++ decoded rest = ap (λ k. decoded (encode_utf8 k ++ rest)) is ∙ rw q refl in
    subst IsUtf8 (sym whole) (IsUtf8-append (encode_utf8 38) (decoded rest) (utf8_char 38 refl) (more rest (cs, (others, refl)) short))
utf8_step most c cs first others few more true (Some found) p q =
    let rest = encode_utf8_all cs in
    let is : c ≡ 38 = eqb-true c 38 p in
    let later = drop found.len rest in
    let short : length later ≤ most = omega (arith, length-append (encode_utf8 c) rest, length-encode c, (len_utf8_bounds c).0, length-drop found.len rest) in
    let whole : decoded (encode_utf8 c ++ rest) ≡ encode_utf8 found.character ++ decoded_after found.len rest = ap (λ k. decoded (encode_utf8 k ++ rest)) is ∙ rw q refl in
    subst IsUtf8 (sym (whole ∙ ap (λ t. encode_utf8 found.character ++ t) (after-drop found.len rest)))
    (IsUtf8-append (encode_utf8 found.character) (decoded later) (utf8_char found.character (reference_scalar rest found q)) (more later (utf8_past rest found (cs, (others, refl)) q found.len refl) short))

scalar_parts : (c : ℕ) (cs : List ℕ) → all_scalars (c ∷ cs) ≡ true → (all_scalars (c ∷ []) ≡ true) × (all_scalars cs ≡ true)
scalar_parts c cs h = let parts = and_parts _ (all_scalars cs) h in (and_from _ true parts.0 refl, parts.1)

utf8_read : (most : ℕ) (text : List ℕ) → IsUtf8 text → length text ≤ most → IsUtf8 (decoded text)
utf8_read zero text utf8 few = let none : text ≡ [] = nil_from_length text (omega arith) in subst (λ (t : List ℕ). IsUtf8 (decoded t)) (sym none) IsUtf8-nil
utf8_read (suc most) text utf8 few = by_char utf8.0 utf8.1.0 utf8.1.1 (utf8_read most)
  where
    by_char : (cs : List ℕ) → all_scalars cs ≡ true → encode_utf8_all cs ≡ text → ((text : List ℕ) → IsUtf8 text → length text ≤ most → IsUtf8 (decoded text)) → IsUtf8 (decoded text)
    by_char [] scalars is more = subst (λ (t : List ℕ). IsUtf8 (decoded t)) is IsUtf8-nil
    by_char (c ∷ cs) scalars is more =
        let parts = scalar_parts c cs scalars in
        subst (λ (t : List ℕ). IsUtf8 (decoded t)) is (utf8_step most c cs parts.0 parts.1 (subst (λ (t : List ℕ). length t ≤ suc most) (sym is) few) more (c == 38) (reference (encode_utf8_all cs)) refl refl)

pub decoded-utf8 : (text : List ℕ) → IsUtf8 text → IsUtf8 (decoded text)
decoded-utf8 text utf8 = utf8_read (length text) text utf8 (omega arith)

-- ---- places where a text may be cut

-- the text is empty, or its first byte is ASCII
abbrev pub AsciiFirst : List ℕ → Type 0
AsciiFirst [] = Unit {0}
AsciiFirst (b ∷ bs) = b < 128

utf8_cut : (front rest : List ℕ) → IsUtf8 (front ++ rest) → AsciiFirst rest → IsUtf8 front × IsUtf8 rest
utf8_cut front [] utf8 first = (subst IsUtf8 (append-nil front) utf8, IsUtf8-nil)
utf8_cut front (b ∷ bs) utf8 first =
    let whole = front ++ (b ∷ bs) in
    let at : get_or whole (length front) 0 ≡ b = get_or-append_seam front b bs 0 in
    let place = IsCharBoundary-before_ascii whole (length front) (omega (arith, length-append front (b ∷ bs))) (omega (arith, at)) in
    (subst IsUtf8 (take-append_seam front (b ∷ bs)) (IsUtf8-take whole (length front) utf8 place), subst IsUtf8 (drop-append_seam front (b ∷ bs)) (IsUtf8-drop whole (length front) utf8 place))

utf8_after : (b : ℕ) (bs : List ℕ) → b < 128 → IsUtf8 (b ∷ bs) → IsUtf8 bs
utf8_after b bs first utf8 = IsUtf8-past_char (b ∷ bs) bs b utf8 (sym (ap (λ l. l ++ bs) (encode_ascii b first)))

utf8_behind : (p : ℕ → Bool) → ((b : ℕ) → p b ≡ true → b < 128) → (xs ys : List ℕ) → list_all p xs ≡ true → IsUtf8 (xs ++ ys) → IsUtf8 ys
utf8_behind p ascii [] ys all utf8 = utf8
utf8_behind p ascii (x ∷ xs) ys all utf8 =
    let parts = and_parts (p x) (list_all p xs) all in
    utf8_behind p ascii xs ys parts.1 (utf8_after x (xs ++ ys) (ascii x parts.0) utf8)

-- a byte past ASCII is part of a name, and no whitespace
high_white : (b : ℕ) → 128 ≤ b → is_whitespace b ≡ false
high_white b high =
    let other : (k : ℕ) → k ≤ 96 → (b == k) ≡ false = λ k h. ne_eqb b k (λ e. omega (arith, e)) in
    rw (other 9 (omega arith), other 10 (omega arith), other 12 (omega arith), other 13 (omega arith), other 32 (omega arith)) refl

high_bare : (b : ℕ) → 128 ≤ b → is_bare_byte b ≡ true
high_bare b high =
    let other : (k : ℕ) → k ≤ 96 → (b == k) ≡ false = λ k h. ne_eqb b k (λ e. omega (arith, e)) in
    rw (other 9 (omega arith), other 10 (omega arith), other 12 (omega arith), other 13 (omega arith), other 32 (omega arith), other 62 (omega arith)) refl

low_where : (p : ℕ → Bool) (v w : Bool) → ((b : ℕ) → 128 ≤ b → p b ≡ v) → (v ≡ w → ⊥) → (b : ℕ) → p b ≡ w → b < 128
low_where p v w high differ b is = elim (cases_lt b 128) [
  | inl low ↦ low
  | inr past ↦ absurd (differ (sym (high b past) ∙ is))
]

white_ascii : (b : ℕ) → is_whitespace b ≡ true → b < 128
white_ascii b h = low_where is_whitespace false true high_white (λ e. true≢false (sym e)) b h

name_ends : (text : List ℕ) → Fails is_name_byte text → AsciiFirst text
name_ends [] fails = tt
name_ends (b ∷ bs) fails = low_where is_name_byte true false (λ b h. small_name b (omega (arith, h))) true≢false b fails

bare_ends : (text : List ℕ) → Fails is_bare_byte text → AsciiFirst text
bare_ends [] fails = tt
bare_ends (b ∷ bs) fails = low_where is_bare_byte true false high_bare true≢false b fails

text_ends : (text : List ℕ) → text_front text ≡ [] → AsciiFirst text
text_ends [] none = tt
text_ends (b ∷ bs) none = elim (cases_lt b 128) [
  | inl low ↦ low
  | inr past ↦
      (let other : (b == 60) ≡ false = ne_eqb b 60 (λ e. omega (arith, e)) in
      let front : text_front (b ∷ bs) ≡ b ∷ text_front bs = go bs other in
      let no : b ∷ text_front bs ≡ [] = sym front ∙ none in
      absurd (cc))
]
  where
    go : (bs : List ℕ) → (b == 60) ≡ false → text_front (b ∷ bs) ≡ b ∷ text_front bs
    go [] other = refl
    go (c ∷ cs) other = rw other refl

utf8_space : (space rest : List ℕ) → IsSpace space → IsUtf8 (space ++ rest) → IsUtf8 rest
utf8_space space rest is utf8 = utf8_behind is_whitespace white_ascii space rest is utf8

utf8_after_space : (text : List ℕ) → IsUtf8 text → IsUtf8 (after_space text)
utf8_after_space [] utf8 = utf8
utf8_after_space (b ∷ bs) utf8 = by_byte (is_whitespace b) refl (utf8_after_space bs)
  where
    by_byte : (w : Bool) → is_whitespace b ≡ w → (IsUtf8 bs → IsUtf8 (after_space bs)) → IsUtf8 (after_space (b ∷ bs))
    by_byte true t more = rw t (more (utf8_after b bs (white_ascii b t) utf8))
    by_byte false t more = rw t utf8

utf8_equals : (text : List ℕ) → begins_equals text ≡ true → IsUtf8 text → IsUtf8 (drop 1 text)
utf8_equals [] is utf8 = absurd (true≢false (sym is))
utf8_equals (b ∷ bs) is utf8 = utf8_after b bs (let e = eqb-true b 61 is in omega (arith, e)) utf8

quote_ascii : (c : ℕ) → (c == 34 || c == 39) ≡ true → c < 128
quote_ascii c is = low_where (λ b. b == 34 || b == 39) false true high (λ e. true≢false (sym e)) c is
  where
    high : (b : ℕ) → 128 ≤ b → (b == 34 || b == 39) ≡ false
    high b past = rw (ne_eqb b 34 (λ e. omega (arith, e)), ne_eqb b 39 (λ e. omega (arith, e))) refl

utf8_quoted : (c : ℕ) (more written rest : List ℕ) → c < 128 → more ≡ written ++ (c ∷ rest) → IsUtf8 more → IsUtf8 written × IsUtf8 rest
utf8_quoted c more written rest low is utf8 =
    let parts = utf8_cut written (c ∷ rest) (subst IsUtf8 is utf8) low in
    (parts.0, utf8_after c rest low parts.1)

utf8_value : (text written rest : List ℕ) → BeginsValue text written rest → IsUtf8 text → IsUtf8 written × IsUtf8 rest
utf8_value [] written rest begins utf8 = absurd begins
utf8_value (c ∷ more) written rest begins utf8 = by_quote (c == 34 || c == 39) refl
  where
    by_quote : (q : Bool) → (c == 34 || c == 39) ≡ q → IsUtf8 written × IsUtf8 rest
    by_quote true t =
        let low = quote_ascii c t in
        let is = when_true _ _ t begins in
        utf8_quoted c more written rest low is.1 (utf8_after c more low utf8)
    by_quote false t =
        let is = when_false _ _ t begins in
        utf8_cut written rest (subst IsUtf8 is.0 utf8) (bare_ends rest is.3)

utf8_has_value : (after value rest : List ℕ) → HasValue after value rest → IsUtf8 after → IsUtf8 value × IsUtf8 rest
utf8_has_value after value rest has utf8 = by_equals (begins_equals (after_space after)) refl
  where
    by_equals : (q : Bool) → begins_equals (after_space after) ≡ q → IsUtf8 value × IsUtf8 rest
    by_equals true t =
        let is = when_true _ _ t has in
        let parts = utf8_value _ is.0 rest is.1 (utf8_after_space _ (utf8_equals (after_space after) t (utf8_after_space after utf8))) in
        (subst IsUtf8 (sym is.2) (decoded-utf8 is.0 parts.0), parts.1)
    by_equals false t =
        let is = when_false _ _ t has in
        (subst IsUtf8 (sym is.0) IsUtf8-nil, subst IsUtf8 (sym is.1) utf8)

utf8_attribute : (text : List ℕ) (attribute : Attribute) (rest : List ℕ) → BeginsAttribute text attribute rest → IsUtf8 text → IsUtf8 attribute.value × IsUtf8 rest
utf8_attribute text attribute rest begins utf8 =
    let behind = utf8_space begins.space (begins.name ++ begins.after) begins.is_space (subst IsUtf8 begins.is utf8) in
    utf8_has_value begins.after attribute.value rest begins.valued (utf8_cut begins.name begins.after behind (name_ends begins.after begins.whole_name)).1

utf8_closes : (slash : Bool) (text rest : List ℕ) → Closes slash text rest → IsUtf8 text → IsUtf8 rest
utf8_closes slash text rest closes utf8 = go closes.2
  where
    go : ((text ≡ closes.0 ++ (62 ∷ rest)) ⊎ ((slash ≡ true) × (text ≡ closes.0 ++ (47 ∷ 62 ∷ rest)))) → IsUtf8 rest
    go (inl is) = utf8_after 62 rest (omega arith) (utf8_space closes.0 (62 ∷ rest) closes.1 (subst IsUtf8 is utf8))
    go (inr is) = utf8_after 62 rest (omega arith) (utf8_after 47 (62 ∷ rest) (omega arith) (utf8_space closes.0 (47 ∷ 62 ∷ rest) closes.1 (subst IsUtf8 is.1 utf8)))

utf8_tag : (slash : Bool) (text : List ℕ) (attributes : List Attribute) (rest : List ℕ) → EndsTag slash text attributes rest → IsUtf8 text → ValuesAreUtf8 attributes × IsUtf8 rest
utf8_tag slash text [] rest ends utf8 = (tt, utf8_closes slash text rest ends utf8)
utf8_tag slash text (attribute ∷ later) rest ends utf8 =
    let first = utf8_attribute text attribute ends.0 ends.1 utf8 in
    let more = utf8_tag slash ends.0 later rest ends.2 first.1 in
    ((first.0, more.0), more.1)

space_first : (space : List ℕ) (b : ℕ) (rest : List ℕ) → IsSpace space → b < 128 → AsciiFirst (space ++ (b ∷ rest))
space_first [] b rest is low = low
space_first (c ∷ cs) b rest is low = white_ascii c (and_parts (is_whitespace c) (list_all is_whitespace cs) is).0

some_space_first : (space rest : List ℕ) → IsSpace space → space ≢ [] → AsciiFirst (space ++ rest)
some_space_first [] rest is some = absurd (some refl)
some_space_first (c ∷ cs) rest is some = white_ascii c (and_parts (is_whitespace c) (list_all is_whitespace cs) is).0

tag_first : (slash : Bool) (text : List ℕ) (attributes : List Attribute) (rest : List ℕ) → EndsTag slash text attributes rest → AsciiFirst text
tag_first slash text [] rest ends = go ends.2
  where
    go : ((text ≡ ends.0 ++ (62 ∷ rest)) ⊎ ((slash ≡ true) × (text ≡ ends.0 ++ (47 ∷ 62 ∷ rest)))) → AsciiFirst text
    go (inl is) = subst AsciiFirst (sym is) (space_first ends.0 62 rest ends.1 (omega arith))
    go (inr is) = subst AsciiFirst (sym is.1) (space_first ends.0 47 (62 ∷ rest) ends.1 (omega arith))
tag_first slash text (attribute ∷ later) rest ends = subst AsciiFirst (sym ends.1.is) (some_space_first ends.1.space _ ends.1.is_space ends.1.some_space)

values_more : (first : List Attribute) (attribute : Attribute) → ValuesAreUtf8 first → IsUtf8 attribute.value → ValuesAreUtf8 (first ++ attribute ∷ [])
values_more [] attribute utf8 new = (new, tt)
values_more (a ∷ first) attribute utf8 new = (utf8.0, values_more first attribute utf8.1 new)

values_kept : (first all : List Attribute) → ValuesAreUtf8 first → ValuesAreUtf8 all → ValuesAreUtf8 (kept_after first all)
values_kept first [] utf8 more = utf8
values_kept first (attribute ∷ later) utf8 more = elim (cases_Bool (has_name attribute.name first)) [
  | inl t ↦ rw t (values_kept first later utf8 more.1)
  | inr f ↦ rw f (values_kept (first ++ attribute ∷ []) later (values_more first attribute utf8 more.0) more.1)
]

utf8_start : (text name : List ℕ) (attributes : List Attribute) (rest : List ℕ) → BeginsStart text name attributes rest → IsUtf8 text → ValuesAreUtf8 attributes × IsUtf8 rest
utf8_start text name attributes rest begins utf8 =
    let behind = utf8_after 60 (begins.written ++ begins.more) (omega arith) (subst IsUtf8 begins.is utf8) in
    let more = (utf8_cut begins.written begins.more behind (tag_first _ begins.more begins.all rest begins.ends)).1 in
    let tag = utf8_tag _ begins.more begins.all rest begins.ends more in
    (subst ValuesAreUtf8 (sym begins.kept) (values_kept [] begins.all tt tag.0), tag.1)

utf8_end : (text name rest : List ℕ) → BeginsEnd text name rest → IsUtf8 text → IsUtf8 rest
utf8_end text name rest ends utf8 =
    let behind = utf8_after 47 _ (omega arith) (utf8_after 60 (47 ∷ (ends.written ++ (ends.space ++ (62 ∷ rest)))) (omega arith) (subst IsUtf8 ends.is utf8)) in
    let after = (utf8_cut ends.written (ends.space ++ (62 ∷ rest)) behind (space_first ends.space 62 rest ends.is_space (omega arith))).1 in
    utf8_after 62 rest (omega arith) (utf8_space ends.space (62 ∷ rest) ends.is_space after)

-- ---- comments and doctypes

utf8_comment : (more contents rest : List ℕ) → EndsAtMark (codes "-->") more contents rest → IsUtf8 more → IsUtf8 rest
utf8_comment more contents rest ends utf8 =
    let mark = (utf8_cut contents (codes "-->" ++ rest) (subst IsUtf8 ends.is utf8) (omega arith)).1 in
    utf8_after 62 rest (omega arith) (utf8_after 45 (62 ∷ rest) (omega arith) (utf8_after 45 (45 ∷ 62 ∷ rest) (omega arith) mark))

abbrev pub is_low : ℕ → Bool
is_low b = nat_lt b 128

low_byte : (b : ℕ) → is_low b ≡ true → b < 128
low_byte b is = elim (cases_lt b 128) [
  | inl low ↦ low
  | inr past ↦ absurd (true≢false (sym is ∙ le-ltb b 128 past))
]

low_folded : (word : List ℕ) → list_all is_low (folded word) ≡ true → list_all is_low word ≡ true
low_folded [] all = refl
low_folded (b ∷ bs) all =
    let parts = and_parts (is_low (to_ascii_lowercase b)) (list_all is_low (folded bs)) all in
    let low : is_low b ≡ true = elim (cases_lt b 128) [
      | inl low ↦ lt-ltb b 128 low
      | inr past ↦ (let stays : to_ascii_lowercase b ≡ b = rw (le-ltb b 65 (omega arith), le-ltb b 91 (omega arith)) refl in ap is_low (sym stays) ∙ parts.0)
    ] in
    and_from (is_low b) (list_all is_low bs) low (low_folded bs parts.1)

utf8_folded : (word written rest : List ℕ) → folded written ≡ word → list_all is_low word ≡ true → IsUtf8 (written ++ rest) → IsUtf8 rest
utf8_folded word written rest folds all utf8 = utf8_behind is_low low_byte written rest (low_folded written (ap (list_all is_low) folds ∙ all)) utf8

utf8_word : (word text rest : List ℕ) → list_all is_low word ≡ true → BeginsWord word text rest → IsUtf8 text → IsUtf8 rest
utf8_word word text rest all begins utf8 =
    utf8_folded word begins.written rest begins.folds all (utf8_space begins.space (begins.written ++ rest) begins.is_space (subst IsUtf8 begins.is utf8))

quote_low : (quote : ℕ) → (quote ≡ 34) ⊎ (quote ≡ 39) → quote < 128
quote_low quote (inl e) = omega (arith, e)
quote_low quote (inr e) = omega (arith, e)

utf8_in_quotes : (text value rest : List ℕ) → BeginsQuoted text value rest → IsUtf8 text → IsUtf8 rest
utf8_in_quotes text value rest begins utf8 =
    let low = quote_low begins.quote begins.is_quote in
    let behind = utf8_after begins.quote _ low (utf8_space begins.space (begins.quote ∷ (value ++ (begins.quote ∷ rest))) begins.is_space (subst IsUtf8 begins.is utf8)) in
    utf8_after begins.quote rest low (utf8_cut value (begins.quote ∷ rest) behind low).1

utf8_identifiers : (text public system rest : List ℕ) → BeginsIdentifiers text public system rest → IsUtf8 text → IsUtf8 rest
utf8_identifiers text public system rest (inl none) utf8 = subst IsUtf8 (sym none.2) utf8
utf8_identifiers text public system rest (inr (inl one)) utf8 = utf8_in_quotes one.0 public rest one.2 (utf8_word (codes "public") text one.0 refl one.1 utf8)
utf8_identifiers text public system rest (inr (inr (inl two))) utf8 = utf8_in_quotes two.1 system rest two.4 (utf8_in_quotes two.0 public two.1 two.3 (utf8_word (codes "public") text two.0 refl two.2 utf8))
utf8_identifiers text public system rest (inr (inr (inr one))) utf8 = utf8_in_quotes one.0 system rest one.2 (utf8_word (codes "system") text one.0 refl one.1 utf8)

utf8_doctype : (text name public system rest : List ℕ) → BeginsDoctype text name public system rest → IsUtf8 text → IsUtf8 rest
utf8_doctype text name public system rest begins utf8 =
    let behind = utf8_after 33 _ (omega arith) (utf8_after 60 (33 ∷ (begins.word ++ (begins.space ++ (begins.written ++ begins.more)))) (omega arith) (subst IsUtf8 begins.is utf8)) in
    let spaced = utf8_folded (codes "doctype") begins.word (begins.space ++ (begins.written ++ begins.more)) begins.is_word refl behind in
    let named = utf8_space begins.space (begins.written ++ begins.more) begins.is_space spaced in
    let more = (utf8_cut begins.written begins.more named (name_ends begins.more begins.whole_name)).1 in
    utf8_closes false begins.close rest begins.closes (utf8_identifiers begins.more public system begins.close begins.identifiers more)

-- ---- trees

-- what follows some items, in UTF-8
abbrev pub Goes : List Item → List ℕ → Type 0
Goes items last = (rest : List ℕ) × IsUtf8 rest × SpellsItemsUpTo markup rest items last

utf8_at_tag : (name text front rest : List ℕ) → EndsAtTag name text front rest → IsUtf8 text → IsUtf8 front × IsUtf8 rest
utf8_at_tag name text front rest at utf8 = utf8_cut front rest (subst IsUtf8 at.is utf8) (subst AsciiFirst (sym at.ends.is) (omega arith))

raw_utf8 : (name : List ℕ) (children : ValueTrees) (text : List ℕ) (items : List Item) (last : List ℕ) → IsUtf8 text →
    SpellsItemsUpTo (raw_text_of name) text (items_of children ++ (the_end name ∷ items)) last → TextsAreUtf8 children × Goes items last
raw_utf8 name no_trees text items last utf8 spelled = (tt, (spelled.0, utf8_end text name spelled.0 spelled.1.1 utf8, spelled.2))
raw_utf8 name (text_node contents no_trees) text items last utf8 spelled =
    let parts = utf8_at_tag name text contents spelled.0 spelled.1.1 utf8 in
    ((parts.0, tt), (spelled.2.0, utf8_end spelled.0 name spelled.2.0 spelled.2.1.1 parts.1, spelled.2.2))
raw_utf8 name (text_node contents (text_node second later)) text items last utf8 spelled = absurd (no_second name text contents spelled.0 second spelled.2.0 spelled.1.1 spelled.2.1.1 spelled.2.1.0)
raw_utf8 name (text_node contents later) text items last utf8 spelled = absurd spelled.2.1
raw_utf8 name children text items last utf8 spelled = absurd spelled.1

text_utf8 : (name : List ℕ) (children : ValueTrees) (text : List ℕ) (items : List Item) (last : List ℕ) → IsUtf8 text →
    SpellsItemsUpTo (text_of name) text (items_of children ++ (the_end name ∷ items)) last → TextsAreUtf8 children × Goes items last
text_utf8 name no_trees text items last utf8 spelled = (tt, (spelled.0, utf8_end text name spelled.0 spelled.1.1 utf8, spelled.2))
text_utf8 name (text_node contents no_trees) text items last utf8 spelled =
    let begins = spelled.1 in
    let parts = utf8_at_tag name text begins.0 spelled.0 begins.2 utf8 in
    ((subst IsUtf8 (sym begins.3) (decoded-utf8 begins.0 parts.0), tt), (spelled.2.0, utf8_end spelled.0 name spelled.2.0 spelled.2.1.1 parts.1, spelled.2.2))
text_utf8 name (text_node contents (text_node second later)) text items last utf8 spelled =
    absurd (no_second name text spelled.1.0 spelled.0 spelled.2.1.0 spelled.2.0 spelled.1.2 spelled.2.1.2 spelled.2.1.1)
text_utf8 name (text_node contents later) text items last utf8 spelled = absurd spelled.2.1
text_utf8 name children text items last utf8 spelled = absurd spelled.1

children_utf8 : (name : List ℕ) (children : ValueTrees) (text : List ℕ) (items : List Item) (last : List ℕ) → IsUtf8 text →
    ((items : List Item) → SpellsItemsUpTo markup text (items_of children ++ items) last → TextsAreUtf8 children × Goes items last) →
    SpellsItemsUpTo (mode_in name) text (items_of children ++ (the_end name ∷ items)) last → TextsAreUtf8 children × Goes items last
children_utf8 name children text items last utf8 read spelled = by_name (is_among name raw_names) (is_among name text_names) refl refl
  where
    by_name : (r t : Bool) → is_among name raw_names ≡ r → is_among name text_names ≡ t → TextsAreUtf8 children × Goes items last
    by_name true t p q = raw_utf8 name children text items last utf8 (rw p at spelled)
    by_name false true p q = text_utf8 name children text items last utf8 (rw (p, q) at spelled)
    by_name false false p q =
        let inner = read (the_end name ∷ items) (rw (p, q) at spelled) in
        let behind = inner.1 in
        let ends = behind.2 in
        (inner.0, (ends.0, utf8_end behind.0 name ends.0 ends.1 behind.1, ends.2))

element_utf8 : (top : Bool) (name : List ℕ) (attributes : List Attribute) (children later : ValueTrees) (text : List ℕ) (items : List Item) (last : List ℕ) →
    AreInPlace top (element_node name attributes children later) → IsUtf8 text →
    ((text : List ℕ) (items : List Item) → IsUtf8 text → SpellsItemsUpTo markup text (items_of children ++ items) last → TextsAreUtf8 children × Goes items last) →
    ((text : List ℕ) → IsUtf8 text → SpellsItemsUpTo markup text (items_of later ++ items) last → TextsAreUtf8 later × Goes items last) →
    (void : Bool) → is_among name void_names ≡ void →
    SpellsItemsUpTo markup text (items_of (element_node name attributes children later) ++ items) last → TextsAreUtf8 (element_node name attributes children later) × Goes items last
element_utf8 top name attributes children later text items last placed utf8 inner outer true void spelled =
    let tag = utf8_start text name attributes spelled.0 spelled.1 utf8 in
    let mode : mode_in name ≡ markup = rw (void_not_raw name void, void_not_text name void) refl in
    let more : SpellsItemsUpTo (mode_in name) spelled.0 (items_of later ++ items) last = rw void at spelled.2 in
    let after = outer spelled.0 tag.1 (subst (λ m. SpellsItemsUpTo m spelled.0 (items_of later ++ items) last) mode more) in
    ((tag.0, subst TextsAreUtf8 (sym (placed.0 void)) tt, after.0), after.1)
element_utf8 top name attributes children later text items last placed utf8 inner outer false void spelled =
    let tag = utf8_start text name attributes spelled.0 spelled.1 utf8 in
    let more : SpellsItemsUpTo (mode_in name) spelled.0 ((items_of children ++ the_end name ∷ items_of later) ++ items) last = rw void at spelled.2 in
    let grouped = subst (λ (is : List Item). SpellsItemsUpTo (mode_in name) spelled.0 is last) (append_assoc (items_of children) (the_end name ∷ items_of later) items) more in
    let below = children_utf8 name children spelled.0 (items_of later ++ items) last tag.1 (λ i s. inner spelled.0 i tag.1 s) grouped in
    let behind = below.1 in
    let after = outer behind.0 behind.1 behind.2 in
    ((tag.0, below.0, after.0), after.1)

trees_utf8 : (top : Bool) (trees : ValueTrees) (last text : List ℕ) (items : List Item) → AreInPlace top trees → IsUtf8 text →
    SpellsItemsUpTo markup text (items_of trees ++ items) last → TextsAreUtf8 trees × Goes items last
trees_utf8 top no_trees last text items placed utf8 spelled = (tt, (text, utf8, spelled))
trees_utf8 top (text_node contents later) last text items placed utf8 spelled =
    let begins = spelled.1 in
    let parts = utf8_cut (text_front text) spelled.0 (subst IsUtf8 begins.1 utf8) (text_ends spelled.0 (front_ends text spelled.0 begins.1)) in
    let more = trees_utf8 top later last spelled.0 items placed parts.1 spelled.2 in
    ((subst IsUtf8 (sym begins.2) (decoded-utf8 (text_front text) parts.0), more.0), more.1)
trees_utf8 top (comment_node contents later) last text items placed utf8 spelled =
    let begins = spelled.1 in
    let open_at = subst IsUtf8 begins.1 utf8 in
    let inner = utf8_after 45 begins.0 (omega arith) (utf8_after 45 (45 ∷ begins.0) (omega arith) (utf8_after 33 (45 ∷ 45 ∷ begins.0) (omega arith) (utf8_after 60 (33 ∷ 45 ∷ 45 ∷ begins.0) (omega arith) open_at))) in
    trees_utf8 top later last spelled.0 items placed (utf8_comment begins.0 contents spelled.0 begins.2 inner) spelled.2
trees_utf8 top (doctype_node name public system later) last text items placed utf8 spelled =
    trees_utf8 top later last spelled.0 items placed.1 (utf8_doctype text name public system spelled.0 spelled.1 utf8) spelled.2
trees_utf8 top (element_node name attributes children later) last text items placed utf8 spelled =
    element_utf8 top name attributes children later text items last placed utf8
    (λ t i u s. trees_utf8 false children last t i placed.1 u s) (λ t u s. trees_utf8 top later last t items placed.2 u s)
    (is_among name void_names) refl spelled

pub read_utf8 : (text : List ℕ) (trees : ValueTrees) → Spells text trees → IsUtf8 text → TextsAreUtf8 trees
read_utf8 text trees spells utf8 =
    (trees_utf8 true trees [] text [] spells.in_place utf8 (subst (λ (i : List Item). SpellsItemsUpTo markup text i []) (sym (append-nil (items_of trees))) spells.items)).0
