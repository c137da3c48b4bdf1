-- The tags of calm pages, byte by byte, are spelled tags of characters.
use Rattle.std.specs.Prelude.{◌≡◌, ◌≢◌, ◌<◌, ◌≤◌, ◌⊎◌, ℕ, Bool, true, false, not, nat_le, ◌+◌, ◌==◌, ◌&&◌, ◌||◌, List, [], ◌∷◌, ◌++◌, MatchBool, drop, flat_map, length, map, refl, if◌then◌else◌}
use Rattle.std.specs.List.{list_all, list_any}
use Rattle.std.specs.Str.{IsUtf8, bytes_eq, chars, encode_utf8_all}
use Rattle.std.specs.Cmp.Derive.{both_true}
use Rattle.std.proofs.Common.{arith, inl, inr}
use Rattle.std.proofs.lemmas.Bool.{and_parts, cases_lt, eqb-true, ne_eqb, or_cases, true≢false}
use Rattle.std.proofs.lemmas.List.{append_assoc, append-nil}
use Rattle.std.proofs.lemmas.Slice.Eq.{bytes_eq-Decides}
use Rattle.std.proofs.lemmas.Str.{chars-nil, encode_ascii, encodes-chars}
use Rattle.std.proofs.lemmas.Str.Ascii.{lowercase_is}
use mathlib.Core.Path.{◌∙◌, sym, ap, subst, fun_ext}
use Rattle.calm_pages.specs.Calm.{is_bare, is_calm_text}
use Rattle.dom_nodes.specs.Words.{is_among}
use Rattle.dom_markup.specs.Bytes.{folded, is_letter, is_name_byte, is_whitespace}
use Rattle.dom_markup.specs.Markup.{BeginsAttribute, BeginsEnd, BeginsStart, BeginsValue, Closes, EndsAtByte, EndsTag, Fails, HasValue, IsSpace, IsTagName, after_space, begins_equals, has_name, is_bare_byte, kept_after}
use Rattle.dom_markup.specs.Names.{void_names}
use Rattle.dom_markup.specs.References.{decoded}
use Rattle.dom_markup.specs.ValueTrees.{Attribute}
use Rattle.dom_markup.proofs.plain.PlainUtf8.{AsciiFirst}
use Rattle.standard_tokens.specs.Machine.{distinct, distinct_behind}
use Rattle.standard_tokens.specs.PlainMarkup.{Piece, Itself, Amp, Lt, Gt, Quot, Nbsp, character, is_name_char, written_piece}
use Rattle.standard_tokens.specs.Tokens.{Attr, AStart}
use Rattle.standard_laws.specs.SpelledMarkup.{Double, NoValue, Quoting, Single, SpelledAttr, SpelledTag, SpelledValue, Unquoted, Valued, are_pieces, are_spelled_attrs, attr_of, begins_unquoted, closing, ends_unquoted, ends_value}
use Rattle.standard_laws.specs.SpelledMarkup.{is_gap_char, is_quoted, is_spelled_attr, is_spelled_char, is_spelled_name, is_spelled_start, is_spelled_tag_name, is_spelled_value, is_value_at, lowered, quoted, start_token, value_of, written_attr, written_end, written_start, written_value}
use Rattle.standard_laws.specs.TreeTokens.{attr_token}
use Rattle.standard_laws.proofs.ByteChars.{Cut, Past, all_chars_by, cut, lowered_chars, lowered_encodes, past, past_all}
use Rattle.standard_laws.proofs.CalmChars.{Pieced, Tested, are_calm_chars, calm_behind, calm_chars, is_calm_char, pieced, stops}
use Rattle.standard_laws.proofs.CalmReadable.{HaveUtf8Names}
use Rattle.standard_laws.proofs.Encodings.{Encodes, chars_are, encodes_chars}

-- ---- a calm text in UTF-8

pub record IsCalm (text : List ℕ) : Type 0 where
  pub utf8 : IsUtf8 text
  pub calm : is_calm_text text ≡ true

-- its characters are calm
pub chars_calm : (text : List ℕ) → IsCalm text → are_calm_chars (chars text) ≡ true
chars_calm text c = calm_chars (chars text) (ap is_calm_text (encodes-chars text c.utf8) ∙ c.calm)

pub calm_is : (text other : List ℕ) → text ≡ other → IsCalm text → IsCalm other
calm_is text other is c = subst IsCalm is c

-- behind an ASCII byte
pub calm_past : (b : ℕ) (rest : List ℕ) → b < 128 → IsCalm (b ∷ rest) → IsCalm rest
calm_past b rest low c = record { utf8 = (past b rest low c.utf8).utf8; calm = calm_behind (b ∷ []) rest c.calm }

pub calm_cut : (front rest : List ℕ) → IsCalm (front ++ rest) → AsciiFirst rest → IsCalm rest
calm_cut front rest c ascii = record { utf8 = (cut front rest c.utf8 ascii).rest; calm = calm_behind front rest c.calm }

-- ---- white space

white_low : (b : ℕ) → is_whitespace b ≡ true → b < 128
white_low b h = grind arith

pub calm_space : (space rest : List ℕ) → IsSpace space → IsCalm (space ++ rest) → IsCalm rest
calm_space space rest is c = record { utf8 = (past_all is_whitespace white_low space rest is c.utf8).utf8; calm = calm_behind space rest c.calm }

pub space_chars : (space rest : List ℕ) → IsSpace space → IsCalm (space ++ rest) → chars (space ++ rest) ≡ space ++ chars rest
space_chars space rest is c = (past_all is_whitespace white_low space rest is c.utf8).chars

white_gap : (b : ℕ) → is_whitespace b ≡ true → (b == 13) ≡ false → is_gap_char b ≡ true
white_gap b h k = grind arith

calm_no_return : (b : ℕ) (rest : List ℕ) → is_calm_text (b ∷ rest) ≡ true → (b == 13) ≡ false
calm_no_return b rest h = by_test (b == 13) refl
  where
    by_test : (x : Bool) → (b == 13) ≡ x → x ≡ false
    by_test true e = absurd (true≢false (sym (subst (λ d. is_calm_text (d ∷ rest) ≡ true) (eqb-true b 13 e) h)))
    by_test false e = refl

-- white space without a carriage return
pub calm_gaps : (space rest : List ℕ) → IsSpace space → is_calm_text (space ++ rest) ≡ true → list_all is_gap_char space ≡ true
calm_gaps [] rest is calm = refl
calm_gaps (b ∷ space) rest is calm =
    let parts : (is_whitespace b ≡ true) × (list_all is_whitespace space ≡ true) = and_parts (is_whitespace b) (list_all is_whitespace space) is in
    both_true (white_gap b parts.0 (calm_no_return b (space ++ rest) calm)) (calm_gaps space rest parts.1 (calm_behind (b ∷ []) (space ++ rest) calm))

-- ---- names

no_upper : (d : ℕ) → (d < 65) ⊎ (90 < d) → (nat_le 65 d && nat_le d 90) ≡ false
no_upper d (inl below) = grind arith
no_upper d (inr over) = grind arith

raised_name : (d : ℕ) → 65 ≤ d → d ≤ 90 → is_name_char (d + 32) ≡ true
raised_name d a b = grind arith

lower_byte : (d : ℕ) → is_name_byte d ≡ true → (nat_le 65 d && nat_le d 90) ≡ false → is_name_char d ≡ true
lower_byte d h no_upper = grind arith

pub small_name : (c : ℕ) → c < 128 → is_name_byte c ≡ true → is_spelled_char c ≡ true
small_name c low h = elim (cases_lt c 65) [
  | inl below ↦ ap is_name_char ((lowercase_is c).1 below) ∙ plain c h (inl below)
  | inr above ↦
      elim (cases_lt 90 c) [
        | inl over ↦ ap is_name_char ((lowercase_is c).2 over) ∙ plain c h (inr over)
        | inr upper ↦ ap is_name_char ((lowercase_is c).0 (above, upper)) ∙ raised_name c above upper
      ]
]
  where
    plain : (d : ℕ) → is_name_byte d ≡ true → (d < 65) ⊎ (90 < d) → is_name_char d ≡ true
    plain d h either = lower_byte d h (no_upper d either)

large_name : (c : ℕ) → 128 ≤ c → is_spelled_char c ≡ true
large_name c high = ap is_name_char ((lowercase_is c).2 (omega (arith, high))) ∙ by_arith c high
  where
    by_arith : (d : ℕ) → 128 ≤ d → is_name_char d ≡ true
    by_arith d h = grind arith

spelled_chars : (name : List ℕ) → IsUtf8 name → list_all is_name_byte name ≡ true → list_all is_spelled_char (chars name) ≡ true
spelled_chars name utf8 all = all_chars_by is_name_byte is_spelled_char small_name large_name name utf8 all

pub spelled_name : (name : List ℕ) → IsUtf8 name → name ≢ [] → list_all is_name_byte name ≡ true → is_spelled_name (chars name) ≡ true
spelled_name name utf8 some all = by_chars (chars name) (encodes-chars name utf8) (spelled_chars name utf8 all)
  where
    by_chars : (cs : List ℕ) → encode_utf8_all cs ≡ name → list_all is_spelled_char cs ≡ true → is_spelled_name cs ≡ true
    by_chars [] e h = absurd (some (sym e))
    by_chars (c ∷ cs) e h = h

pub letter_low : (b : ℕ) → is_letter b ≡ true → b < 128
letter_low b h = grind arith

pub spelled_tag_name : (name : List ℕ) → IsUtf8 name → IsTagName name → is_spelled_tag_name (chars name) ≡ true
spelled_tag_name [] utf8 named = absurd named
spelled_tag_name (b ∷ name) utf8 named =
    let p : Past b name = past b name (letter_low b named.0) utf8 in
    subst (λ (cs : List ℕ). is_spelled_tag_name cs ≡ true) (sym p.chars) (both_true named.0 (spelled_chars name p.utf8 named.1))

-- what ends a name is ASCII
high_name : (b : ℕ) → 128 ≤ b → is_name_byte b ≡ true
high_name b h = grind arith

high_bare : (b : ℕ) → 128 ≤ b → is_bare_byte b ≡ true
high_bare b h = grind arith

fails_ascii : (test : ℕ → Bool) → ((b : ℕ) → 128 ≤ b → test b ≡ true) → (text : List ℕ) → Fails test text → AsciiFirst text
fails_ascii test high [] fails = tt
fails_ascii test high (b ∷ text) fails = elim (cases_lt b 128) [ inl low ↦ low | inr large ↦ absurd (true≢false (sym (high b large) ∙ fails)) ]

space_ascii : (space : List ℕ) (b : ℕ) (rest : List ℕ) → IsSpace space → b < 128 → AsciiFirst (space ++ b ∷ rest)
space_ascii [] b rest is low = low
space_ascii (c ∷ space) b rest is low = white_low c (and_parts (is_whitespace c) (list_all is_whitespace space) is).0

some_ascii : (space rest : List ℕ) → IsSpace space → space ≢ [] → AsciiFirst (space ++ rest)
some_ascii [] rest is some = absurd (some refl)
some_ascii (c ∷ space) rest is some = white_low c (and_parts (is_whitespace c) (list_all is_whitespace space) is).0

-- ---- values

-- pieces of a value, which stands for the decoded bytes
pub record ValuePieces (quoting : Quoting) (written value rest : List ℕ) : Type 0 where
  pub pieces : List Piece
  pub is : flat_map written_piece pieces ≡ chars written
  pub means : map character pieces ≡ chars value
  pub passes : are_pieces (is_value_at quoting) pieces rest ≡ true

tested_value : (quoting : Quoting) (cs rest : List ℕ) → list_all (λ c. not (ends_value quoting c)) cs ≡ true → are_calm_chars (cs ++ rest) ≡ true → Tested (is_value_at quoting) cs rest
tested_value quoting [] rest all calm = tt
tested_value quoting (c ∷ cs) rest all calm =
    let a : (not (ends_value quoting c) ≡ true) × (list_all (λ d. not (ends_value quoting d)) cs ≡ true) = and_parts (not (ends_value quoting c)) (list_all (λ d. not (ends_value quoting d)) cs) all in
    let k : (is_calm_char c (cs ++ rest) ≡ true) × (are_calm_chars (cs ++ rest) ≡ true) = and_parts (is_calm_char c (cs ++ rest)) (are_calm_chars (cs ++ rest)) calm in
    ((λ e. here a.0 (rw e at k.0) e), tested_value quoting cs rest a.1 k.1)
  where
    neither : (x y : Bool) → not x ≡ true → not y ≡ true → not (x || y) ≡ true
    neither true y h k = absurd (true≢false (sym h))
    neither false y h k = k

    here : not (ends_value quoting c) ≡ true → not (0 == c || 13 == c) ≡ true → (38 == c) ≡ false → is_value_at quoting c (cs ++ rest) ≡ true
    here ends kept other = both_true (neither (0 == c || 13 == c) (ends_value quoting c) kept ends) (rw other refl)

bare_value : (quoting : Quoting) (after : List ℕ) → is_bare after ≡ true → is_value_at quoting 38 after ≡ true
bare_value Double after h = h
bare_value Single after h = h
bare_value Unquoted after h = h

value_pieces : (quoting : Quoting) (written rest : List ℕ) → IsUtf8 written → are_calm_chars (chars written ++ rest) ≡ true → list_all (λ c. not (ends_value quoting c)) (chars written) ≡ true →
    stops rest ≡ true → ValuePieces quoting written (decoded written) rest
value_pieces quoting written rest utf8 calm all stop =
    let p : Pieced (is_value_at quoting) (chars written) rest =
    pieced (is_value_at quoting) (bare_value quoting) rest stop (length (chars written)) (chars written) (omega arith) (encodes_chars written utf8).scalars calm (tested_value quoting (chars written) rest all calm) in
    record {
      pieces = p.pieces;
      is = p.written;
      means = sym (ap (λ (bs : List ℕ). chars (decoded bs)) (sym (encodes-chars written utf8)) ∙ chars_are p.means);
      passes = p.passes;
    }

-- ---- attributes

-- the text is spelled as this value and then the rest
pub record SpellsValue (text value rest : List ℕ) : Type 0 where
  pub spelled : SpelledValue
  pub is : chars text ≡ written_value spelled ++ chars rest
  pub means : value_of spelled ≡ chars value
  pub passes : is_spelled_value spelled (chars rest) ≡ true
  pub calm : IsCalm rest

white_before : (text : List ℕ) → (space : List ℕ) × IsSpace space × (text ≡ space ++ after_space text)
white_before [] = ([], refl, refl)
white_before (b ∷ text) = by_test (is_whitespace b) refl (white_before text)
  where
    by_test : (x : Bool) → is_whitespace b ≡ x → (space : List ℕ) × IsSpace space × (text ≡ space ++ after_space text) →
        (space : List ℕ) × IsSpace space × (b ∷ text ≡ space ++ (if x then after_space text else b ∷ text))
    by_test true e later = (b ∷ later.0, both_true e later.1, ap (λ (t : List ℕ). b ∷ t) later.2)
    by_test false e later = ([], refl, refl)

lacks_quote : (k : ℕ) → k < 128 → (written : List ℕ) → IsUtf8 written → list_all (λ b. not (b == k)) written ≡ true → list_all (λ c. not (k == c)) (chars written) ≡ true
lacks_quote k low written utf8 all = all_chars_by (λ b. not (b == k)) (λ c. not (k == c)) (λ c small h. swapped c h) (λ c large. differs c large) written utf8 all
  where
    swapped : (c : ℕ) → not (c == k) ≡ true → not (k == c) ≡ true
    swapped c h = grind arith

    differs : (c : ℕ) → 128 ≤ c → not (k == c) ≡ true
    differs c large = ap not (ne_eqb k c (λ e. omega (arith, low, e, large)))

-- a value in quotes
quoted_value : (quoting : Quoting) (quote : ℕ) → quote < 128 → ((c : ℕ) → ends_value quoting c ≡ (quote == c)) → stops (quote ∷ []) ≡ true →
    ((written : List ℕ) → quoted quoting written ≡ quote ∷ (written ++ quote ∷ [])) → ((pieces : List Piece) (rest : List ℕ) → is_quoted quoting pieces rest ≡ are_pieces (is_value_at quoting) pieces (quote ∷ rest)) →
    (before after written rest : List ℕ) → list_all is_gap_char before ≡ true → list_all is_gap_char after ≡ true → (text more : List ℕ) → chars text ≡ before ++ (61 ∷ (after ++ (quote ∷ chars more))) →
    EndsAtByte quote more written rest → IsCalm more → SpellsValue text (decoded written) rest
quoted_value quoting quote low ends stop written_is quoted_is before after written rest gaps_before gaps_after text more is at calm =
    let whole : IsCalm (written ++ quote ∷ rest) = calm_is more (written ++ quote ∷ rest) at.1 calm in
    let c : Cut written (quote ∷ rest) = cut written (quote ∷ rest) whole.utf8 low in
    let p : Past quote rest = past quote rest low c.rest in
    let both : chars more ≡ chars written ++ (quote ∷ chars rest) = ap chars at.1 ∙ c.both ∙ ap (λ (cs : List ℕ). chars written ++ cs) p.chars in
    let lacks : list_all (λ c. not (ends_value quoting c)) (chars written) ≡ true =
    subst (λ (f : ℕ → Bool). list_all (λ c. not (f c)) (chars written) ≡ true) (sym (fun_ext ends)) (lacks_quote quote low written c.own at.0) in
    let v : ValuePieces quoting written (decoded written) (quote ∷ chars rest) =
    value_pieces quoting written (quote ∷ chars rest) c.own (ap are_calm_chars (sym both) ∙ chars_calm more calm) lacks stop in
    record {
      spelled = Valued before after quoting v.pieces;
      is = is ∙ ap (λ (cs : List ℕ). before ++ (61 ∷ (after ++ (quote ∷ cs)))) both ∙ joined (flat_map written_piece v.pieces) v.is;
      means = v.means;
      passes = both_true gaps_before (both_true gaps_after (quoted_is v.pieces (chars rest) ∙ v.passes));
      calm = calm_past quote rest low (record { utf8 = c.rest; calm = calm_behind written (quote ∷ rest) whole.calm });
    }
  where
    joined : (cs : List ℕ) → cs ≡ chars written → before ++ (61 ∷ (after ++ (quote ∷ (chars written ++ (quote ∷ chars rest))))) ≡ (before ++ (61 ∷ (after ++ quoted quoting cs))) ++ chars rest
    joined cs e =
        ap (λ (ds : List ℕ). before ++ (61 ∷ (after ++ (quote ∷ ds)))) (ap (λ (ds : List ℕ). ds ++ (quote ∷ chars rest)) (sym e) ∙ sym (append_assoc cs (quote ∷ []) (chars rest)))
        ∙ ap (λ (ds : List ℕ). before ++ (61 ∷ (after ++ (ds ++ chars rest)))) (sym (written_is cs))
        ∙ ap (λ (ds : List ℕ). before ++ (61 ∷ ds)) (sym (append_assoc after (quoted quoting cs) (chars rest)))
        ∙ sym (append_assoc before (61 ∷ (after ++ quoted quoting cs)) (chars rest))

-- a value without quotes
bare_small : (c : ℕ) → c < 128 → is_bare_byte c ≡ true → not (ends_value Unquoted c) ≡ true
bare_small c low h = grind arith

bare_large : (c : ℕ) → 128 ≤ c → not (ends_value Unquoted c) ≡ true
bare_large c high = grind arith

gap_ends : (d : ℕ) → is_gap_char d ≡ true → ends_value Unquoted d ≡ true
gap_ends d h = elim (or_cases _ (d == 32) h) [
  | inr k ↦ ends 32 k refl
  | inl h3 ↦ elim (or_cases _ (d == 12) h3) [ inr k ↦ ends 12 k refl | inl h2 ↦ elim (or_cases (d == 9) (d == 10) h2) [ inl k ↦ ends 9 k refl | inr k ↦ ends 10 k refl ] ]
]
  where
    ends : (n : ℕ) → (d == n) ≡ true → ends_value Unquoted n ≡ true → ends_value Unquoted d ≡ true
    ends n k is = subst (λ x. ends_value Unquoted x ≡ true) (sym (eqb-true d n k)) is

of_five : (P : ℕ → Type 0) → P 9 → P 10 → P 12 → P 32 → P 62 → (d : ℕ) → ends_value Unquoted d ≡ true → P d
of_five P a b c e f d h = elim (or_cases _ (62 == d) h) [
  | inr k ↦ subst P (eqb-true 62 d k) f
  | inl h4 ↦
      elim (or_cases _ (32 == d) h4) [
        | inr k ↦ subst P (eqb-true 32 d k) e
        | inl h3 ↦
            elim (or_cases _ (12 == d) h3) [
              | inr k ↦ subst P (eqb-true 12 d k) c
              | inl h2 ↦ elim (or_cases (9 == d) (10 == d) h2) [ inl k ↦ subst P (eqb-true 9 d k) a | inr k ↦ subst P (eqb-true 10 d k) b ]
            ]
      ]
]

-- what ends it
record EndsBare (rest : List ℕ) : Type 0 where
  ends : ends_unquoted (chars rest) ≡ true
  stop : stops (chars rest) ≡ true

ends_bare : (rest : List ℕ) → rest ≢ [] → Fails is_bare_byte rest → IsCalm rest → EndsBare rest
ends_bare [] some fails c = absurd (some refl)
ends_bare (b ∷ rest) some fails c =
    let low : b < 128 = fails_ascii is_bare_byte high_bare (b ∷ rest) fails in
    let p : Past b rest = past b rest low c.utf8 in
    let ends : ends_value Unquoted b ≡ true = from_fails b fails (calm_no_return b rest c.calm) in
    record { ends = subst (λ (cs : List ℕ). ends_unquoted cs ≡ true) (sym p.chars) ends; stop = subst (λ (cs : List ℕ). stops cs ≡ true) (sym p.chars) (stopped b ends) }
  where
    not_false : (x : Bool) → not x ≡ false → x ≡ true
    not_false true k = refl
    not_false false k = sym k

    from_fails : (d : ℕ) → is_bare_byte d ≡ false → (d == 13) ≡ false → ends_value Unquoted d ≡ true
    from_fails d h k = elim (or_cases (is_whitespace d) (d == 62) (not_false _ h)) [
      | inl white ↦ gap_ends d (white_gap d white k)
      | inr greater ↦ subst (λ x. ends_value Unquoted x ≡ true) (sym (eqb-true d 62 greater)) refl
    ]

    stopped : (d : ℕ) → ends_value Unquoted d ≡ true → stops (d ∷ chars rest) ≡ true
    stopped d h = of_five (λ x. stops (x ∷ chars rest) ≡ true) refl refl refl refl refl d h

unquoted_begins : (pieces : List Piece) (c : ℕ) (cs : List ℕ) → flat_map written_piece pieces ≡ c ∷ cs → not (34 == c || 39 == c) ≡ true → begins_unquoted pieces ≡ true
unquoted_begins [] c cs is h = cc
unquoted_begins (Itself d ∷ pieces) c cs is h = let e : d ≡ c = cc in subst (λ x. not (34 == x || 39 == x) ≡ true) (sym e) h
unquoted_begins (Amp ∷ pieces) c cs is h = refl
unquoted_begins (Lt ∷ pieces) c cs is h = refl
unquoted_begins (Gt ∷ pieces) c cs is h = refl
unquoted_begins (Quot ∷ pieces) c cs is h = refl
unquoted_begins (Nbsp ∷ pieces) c cs is h = refl

-- the first character of a text is its first byte, or past ASCII
first_no_quote : (written : List ℕ) (c : ℕ) (cs : List ℕ) → IsUtf8 written → chars written ≡ c ∷ cs → (b : ℕ) (more : List ℕ) → written ≡ b ∷ more → (b == 34 || b == 39) ≡ false → not (34 == c || 39 == c) ≡ true
first_no_quote written c cs utf8 is b more starts h = elim (cases_lt b 128) [
  | inl low ↦
      (let p : Past b more = past b more low (subst IsUtf8 starts utf8) in
      let same : b ∷ chars more ≡ c ∷ cs = sym p.chars ∙ ap chars (sym starts) ∙ is in
      let e : b ≡ c = cc in
      swapped c (subst (λ d. (d == 34 || d == 39) ≡ false) e h))
  | inr high ↦ past_quotes high (cases_lt c 128)
]
  where
    swapped : (d : ℕ) → (d == 34 || d == 39) ≡ false → not (34 == d || 39 == d) ≡ true
    swapped d k = grind arith

    large : (d : ℕ) → 128 ≤ d → not (34 == d || 39 == d) ≡ true
    large d k = grind arith

    past_quotes : 128 ≤ b → (c < 128) ⊎ (128 ≤ c) → not (34 == c || 39 == c) ≡ true
    past_quotes high (inr k) = large c k
    past_quotes high (inl k) =
        let same : c ∷ encode_utf8_all cs ≡ b ∷ more = ap (λ (bs : List ℕ). bs ++ encode_utf8_all cs) (sym (encode_ascii c k)) ∙ ap encode_utf8_all (sym is) ∙ encodes-chars written utf8 ∙ starts in
        let e : c ≡ b = cc in
        absurd (omega (arith, k, high, e))

unquoted_value : (before after written rest : List ℕ) → list_all is_gap_char before ≡ true → list_all is_gap_char after ≡ true → (text more : List ℕ) (c : ℕ) → (c == 34 || c == 39) ≡ false →
    chars text ≡ before ++ (61 ∷ (after ++ chars (c ∷ more))) → c ∷ more ≡ written ++ rest → written ≢ [] → list_all is_bare_byte written ≡ true → Fails is_bare_byte rest → rest ≢ [] → IsCalm (c ∷ more) →
    SpellsValue text (decoded written) rest
unquoted_value before after [] rest gaps_before gaps_after text more c none is at some all fails some_rest calm = absurd (some refl)
unquoted_value before after (w ∷ ws) rest gaps_before gaps_after text more c none is at some all fails some_rest calm =
    let written : List ℕ = w ∷ ws in
    let whole : IsCalm (written ++ rest) = calm_is (c ∷ more) (written ++ rest) at calm in
    let ascii : AsciiFirst rest = fails_ascii is_bare_byte high_bare rest fails in
    let k : Cut written rest = cut written rest whole.utf8 ascii in
    let behind : IsCalm rest = calm_cut written rest whole ascii in
    let ends : EndsBare rest = ends_bare rest some_rest fails behind in
    let both : chars (c ∷ more) ≡ chars written ++ chars rest = ap chars at ∙ k.both in
    let head : c ≡ w = cc in
    let lacks : list_all (λ d. not (ends_value Unquoted d)) (chars written) ≡ true = all_chars_by is_bare_byte (λ d. not (ends_value Unquoted d)) bare_small bare_large written k.own all in
    let v : ValuePieces Unquoted written (decoded written) (chars rest) = value_pieces Unquoted written (chars rest) k.own (ap are_calm_chars (sym both) ∙ chars_calm (c ∷ more) calm) lacks ends.stop in
    record {
      spelled = Valued before after Unquoted v.pieces;
      is = is ∙ ap (λ (cs : List ℕ). before ++ (61 ∷ (after ++ cs))) both ∙ joined (flat_map written_piece v.pieces) v.is;
      means = v.means;
      passes = both_true gaps_before (both_true gaps_after (both_true (begins v.pieces (chars written) refl v.is (subst (λ d. (d == 34 || d == 39) ≡ false) head none) k.own) (both_true ends.ends v.passes)));
      calm = behind;
    }
  where
    joined : (cs : List ℕ) → cs ≡ chars (w ∷ ws) → before ++ (61 ∷ (after ++ (chars (w ∷ ws) ++ chars rest))) ≡ (before ++ (61 ∷ (after ++ cs))) ++ chars rest
    joined cs e =
        ap (λ (ds : List ℕ). before ++ (61 ∷ (after ++ (ds ++ chars rest)))) (sym e) ∙ ap (λ (ds : List ℕ). before ++ (61 ∷ ds)) (sym (append_assoc after cs (chars rest)))
        ∙ sym (append_assoc before (61 ∷ (after ++ cs)) (chars rest))

    begins : (pieces : List Piece) (cs : List ℕ) → chars (w ∷ ws) ≡ cs → flat_map written_piece pieces ≡ chars (w ∷ ws) → (w == 34 || w == 39) ≡ false → IsUtf8 (w ∷ ws) → begins_unquoted pieces ≡ true
    begins pieces [] e is none utf8 = let empty : [] ≡ w ∷ ws = ap encode_utf8_all (sym e) ∙ encodes-chars (w ∷ ws) utf8 in cc
    begins pieces (d ∷ ds) e is none utf8 = unquoted_begins pieces d ds (is ∙ e) (first_no_quote (w ∷ ws) d ds utf8 e w ws refl none)

begins_value : (before after : List ℕ) → list_all is_gap_char before ≡ true → list_all is_gap_char after ≡ true → (text begin written rest : List ℕ) → chars text ≡ before ++ (61 ∷ (after ++ chars begin)) →
    BeginsValue begin written rest → rest ≢ [] → IsCalm begin → SpellsValue text (decoded written) rest
begins_value before after gaps_before gaps_after text [] written rest is value some calm = absurd value
begins_value before after gaps_before gaps_after text (c ∷ more) written rest is value some calm = by_quote (c == 34 || c == 39) refl value
  where
    double : c ≡ 34 → EndsAtByte c more written rest → SpellsValue text (decoded written) rest
    double e at =
        let begin : IsCalm (34 ∷ more) = subst (λ d. IsCalm (d ∷ more)) e calm in
        quoted_value Double 34 (omega arith) (λ d. refl) refl (λ cs. refl) (λ ps r. refl) before after written rest gaps_before gaps_after text more
        (is ∙ ap (λ (cs : List ℕ). before ++ (61 ∷ (after ++ cs))) (ap (λ d. chars (d ∷ more)) e ∙ (past 34 more (omega arith) begin.utf8).chars))
        (subst (λ d. EndsAtByte d more written rest) e at) (calm_past 34 more (omega arith) begin)

    single : c ≡ 39 → EndsAtByte c more written rest → SpellsValue text (decoded written) rest
    single e at =
        let begin : IsCalm (39 ∷ more) = subst (λ d. IsCalm (d ∷ more)) e calm in
        quoted_value Single 39 (omega arith) (λ d. refl) refl (λ cs. refl) (λ ps r. refl) before after written rest gaps_before gaps_after text more
        (is ∙ ap (λ (cs : List ℕ). before ++ (61 ∷ (after ++ cs))) (ap (λ d. chars (d ∷ more)) e ∙ (past 39 more (omega arith) begin.utf8).chars))
        (subst (λ d. EndsAtByte d more written rest) e at) (calm_past 39 more (omega arith) begin)

    by_quote : (x : Bool) → (c == 34 || c == 39) ≡ x →
        MatchBool x (EndsAtByte c more written rest) ((c ∷ more ≡ written ++ rest) × (written ≢ []) × (list_all is_bare_byte written ≡ true) × Fails is_bare_byte rest) → SpellsValue text (decoded written) rest
    by_quote true e at = elim (or_cases (c == 34) (c == 39) e) [ inl k ↦ double (eqb-true c 34 k) at | inr k ↦ single (eqb-true c 39 k) at ]
    by_quote false e at = unquoted_value before after written rest gaps_before gaps_after text more c e is at.0 at.1 at.2 at.3 some calm

-- what follows a name
pub spells_value : (after value rest : List ℕ) → HasValue after value rest → rest ≢ [] → IsCalm after → SpellsValue after value rest
spells_value after value rest has some calm = by_equals (begins_equals (after_space after)) refl has
  where
    first_is : (text : List ℕ) → begins_equals text ≡ true → text ≡ 61 ∷ drop 1 text
    first_is [] h = absurd (true≢false (sym h))
    first_is (b ∷ text) h = ap (λ c. c ∷ text) (eqb-true b 61 h)

    by_equals : (x : Bool) → begins_equals (after_space after) ≡ x →
        MatchBool x ((written : List ℕ) × BeginsValue (after_space (drop 1 (after_space after))) written rest × (value ≡ decoded written)) ((value ≡ []) × (rest ≡ after)) → SpellsValue after value rest
    by_equals false e k = record {
      spelled = NoValue;
      is = ap chars (sym k.1);
      means = sym (ap chars k.0 ∙ chars-nil);
      passes = refl;
      calm = calm_is after rest (sym k.1) calm;
    }
    by_equals true e k =
        let w = white_before after in
        let more : List ℕ = drop 1 (after_space after) in
        let v = white_before more in
        let a : IsCalm (w.0 ++ after_space after) = calm_is after (w.0 ++ after_space after) w.2 calm in
        let equals : IsCalm (61 ∷ more) = calm_is (after_space after) (61 ∷ more) (first_is (after_space after) e) (calm_space w.0 (after_space after) w.1 a) in
        let b : IsCalm (v.0 ++ after_space more) = calm_is more (v.0 ++ after_space more) v.2 (calm_past 61 more (omega arith) equals) in
        let begin : IsCalm (after_space more) = calm_space v.0 (after_space more) v.1 b in
        let is : chars after ≡ w.0 ++ (61 ∷ (v.0 ++ chars (after_space more))) =
        ap chars w.2 ∙ space_chars w.0 (after_space after) w.1 a
        ∙ ap (λ (cs : List ℕ). w.0 ++ cs) (ap chars (first_is (after_space after) e) ∙ (past 61 more (omega arith) equals.utf8).chars ∙ ap (λ (cs : List ℕ). 61 ∷ cs) (ap chars v.2 ∙ space_chars v.0 (after_space more) v.1 b)) in
        subst (λ (t : List ℕ). SpellsValue after t rest) (sym k.2)
        (begins_value w.0 v.0 (calm_gaps w.0 (after_space after) w.1 a.calm) (calm_gaps v.0 (after_space more) v.1 b.calm) after (after_space more) k.0 rest is k.1 some begin)

-- ---- attributes

-- the text is spelled as this attribute and then the rest
pub record SpellsAttr (text : List ℕ) (attribute : Attribute) (rest : List ℕ) : Type 0 where
  pub spelled : SpelledAttr
  pub is : chars text ≡ written_attr spelled ++ chars rest
  pub means : attr_of spelled ≡ attr_token attribute
  pub passes : is_spelled_attr spelled (chars rest) ≡ true
  pub named : IsUtf8 attribute.name
  pub calm : IsCalm rest

folded_utf8 : (written : List ℕ) → IsUtf8 written → IsUtf8 (folded written)
folded_utf8 written utf8 = let e : Encodes (lowered (chars written)) (folded written) = lowered_encodes written utf8 in (lowered (chars written), (e.scalars, e.same))

abbrev attr_with : List ℕ → List ℕ → Attr
attr_with name value = record { name = name; value = value }

attr_is : (a b c d : List ℕ) → a ≡ c → b ≡ d → attr_with a b ≡ attr_with c d
attr_is a b c d e f = ap (λ x. attr_with x b) e ∙ ap (attr_with c) f

spells_attr : (text : List ℕ) (attribute : Attribute) (rest : List ℕ) → BeginsAttribute text attribute rest → rest ≢ [] → IsCalm text → SpellsAttr text attribute rest
spells_attr text attribute rest b some calm = by_space b.space refl
  where
    by_space : (space : List ℕ) → b.space ≡ space → SpellsAttr text attribute rest
    by_space [] e = absurd (b.some_space e)
    by_space (g ∷ space) e =
        let first : IsCalm ((g ∷ space) ++ (b.name ++ b.after)) = calm_is text ((g ∷ space) ++ (b.name ++ b.after)) (b.is ∙ ap (λ (s : List ℕ). s ++ (b.name ++ b.after)) e) calm in
        let white : IsSpace (g ∷ space) = subst IsSpace e b.is_space in
        let named : IsCalm (b.name ++ b.after) = calm_space (g ∷ space) (b.name ++ b.after) white first in
        let ascii : AsciiFirst b.after = fails_ascii is_name_byte high_name b.after b.whole_name in
        let k : Cut b.name b.after = cut b.name b.after named.utf8 ascii in
        let v : SpellsValue b.after attribute.value rest = spells_value b.after attribute.value rest b.valued some (calm_cut b.name b.after named ascii) in
        let gaps : list_all is_gap_char (g ∷ space) ≡ true = calm_gaps (g ∷ space) (b.name ++ b.after) white first.calm in
        let is : chars text ≡ (g ∷ space) ++ (chars b.name ++ (written_value v.spelled ++ chars rest)) =
        ap chars (b.is ∙ ap (λ (s : List ℕ). s ++ (b.name ++ b.after)) e) ∙ space_chars (g ∷ space) (b.name ++ b.after) white first
        ∙ ap (λ (cs : List ℕ). (g ∷ space) ++ cs) (k.both ∙ ap (λ (cs : List ℕ). chars b.name ++ cs) v.is) in
        let parts : (is_gap_char g ≡ true) × (list_all is_gap_char space ≡ true) = and_parts (is_gap_char g) (list_all is_gap_char space) gaps in
        record {
          spelled = record { gap = g; space = space; name = chars b.name; value = v.spelled };
          is = is ∙ ap (λ (cs : List ℕ). g ∷ cs) (ap (λ (cs : List ℕ). space ++ cs) (sym (append_assoc (chars b.name) (written_value v.spelled) (chars rest))) ∙ sym (append_assoc space (chars b.name ++ written_value v.spelled) (chars rest)));
          means = attr_is _ _ _ _ (sym (lowered_chars b.name k.own) ∙ ap chars (sym b.folds)) v.means;
          passes = both_true (both_true parts.0 parts.1) (both_true (spelled_name b.name k.own b.some_name b.is_name) v.passes);
          named = subst IsUtf8 (sym b.folds) (folded_utf8 b.name k.own);
          calm = v.calm;
        }

-- ---- the end of a tag

-- the text is spelled as these attributes, the end of the tag, and then the rest
pub record SpellsTagEnd (may_slash : Bool) (text : List ℕ) (all : List Attribute) (rest : List ℕ) : Type 0 where
  pub attrs : List SpelledAttr
  pub space : List ℕ
  pub slash : Bool
  pub is : chars text ≡ flat_map written_attr attrs ++ (space ++ (closing slash ++ chars rest))
  pub means : map attr_of attrs ≡ map attr_token all
  pub gaps : list_all is_gap_char space ≡ true
  pub passes : are_spelled_attrs attrs (space ++ (closing slash ++ chars rest)) ≡ true
  pub named : HaveUtf8Names all
  pub slashed : slash ≡ true → may_slash ≡ true
  pub calm : IsCalm rest

closes_some : (may_slash : Bool) (text rest : List ℕ) → Closes may_slash text rest → text ≢ []
closes_some may_slash text rest c = by_case c.0 c.2
  where
    some : (space : List ℕ) (b : ℕ) (more : List ℕ) → text ≡ space ++ b ∷ more → text ≢ []
    some [] b more is e = cc
    some (s ∷ space) b more is e = cc

    by_case : (space : List ℕ) → ((text ≡ space ++ (62 ∷ rest)) ⊎ ((may_slash ≡ true) × (text ≡ space ++ (47 ∷ 62 ∷ rest)))) → text ≢ []
    by_case space (inl is) = some space 62 rest is
    by_case space (inr is) = some space 47 (62 ∷ rest) is.1

tag_some : (may_slash : Bool) (text : List ℕ) (all : List Attribute) (rest : List ℕ) → EndsTag may_slash text all rest → text ≢ []
tag_some may_slash text [] rest ends = closes_some may_slash text rest ends
tag_some may_slash text (attribute ∷ all) rest ends = some ends.1.space (ends.1.name ++ ends.1.after) ends.1.is ends.1.some_space
  where
    some : (space more : List ℕ) → text ≡ space ++ more → space ≢ [] → text ≢ []
    some [] more is k e = k refl
    some (s ∷ space) more is k e = cc

spells_close : (may_slash : Bool) (text rest : List ℕ) → Closes may_slash text rest → IsCalm text → SpellsTagEnd may_slash text [] rest
spells_close may_slash text rest c calm = by_case c.0 c.1 c.2
  where
    by_case : (space : List ℕ) → IsSpace space → ((text ≡ space ++ (62 ∷ rest)) ⊎ ((may_slash ≡ true) × (text ≡ space ++ (47 ∷ 62 ∷ rest)))) → SpellsTagEnd may_slash text [] rest
    by_case space white (inl is) =
        let a : IsCalm (space ++ (62 ∷ rest)) = calm_is text (space ++ (62 ∷ rest)) is calm in
        let b : IsCalm (62 ∷ rest) = calm_space space (62 ∷ rest) white a in
        record {
          attrs = [];
          space = space;
          slash = false;
          is = ap chars is ∙ space_chars space (62 ∷ rest) white a ∙ ap (λ (cs : List ℕ). space ++ cs) (past 62 rest (omega arith) b.utf8).chars;
          means = refl;
          gaps = calm_gaps space (62 ∷ rest) white a.calm;
          passes = refl;
          named = tt;
          slashed = λ e. absurd (true≢false (sym e));
          calm = calm_past 62 rest (omega arith) b;
        }
    by_case space white (inr is) =
        let a : IsCalm (space ++ (47 ∷ 62 ∷ rest)) = calm_is text (space ++ (47 ∷ 62 ∷ rest)) is.1 calm in
        let b : IsCalm (47 ∷ 62 ∷ rest) = calm_space space (47 ∷ 62 ∷ rest) white a in
        let c : IsCalm (62 ∷ rest) = calm_past 47 (62 ∷ rest) (omega arith) b in
        record {
          attrs = [];
          space = space;
          slash = true;
          is = ap chars is.1 ∙ space_chars space (47 ∷ 62 ∷ rest) white a
              ∙ ap (λ (cs : List ℕ). space ++ cs) ((past 47 (62 ∷ rest) (omega arith) b.utf8).chars ∙ ap (λ (cs : List ℕ). 47 ∷ cs) (past 62 rest (omega arith) c.utf8).chars);
          means = refl;
          gaps = calm_gaps space (47 ∷ 62 ∷ rest) white a.calm;
          passes = refl;
          named = tt;
          slashed = λ e. is.0;
          calm = calm_past 62 rest (omega arith) c;
        }

pub spells_tag_end : (may_slash : Bool) (text : List ℕ) (all : List Attribute) (rest : List ℕ) → EndsTag may_slash text all rest → IsCalm text → SpellsTagEnd may_slash text all rest
spells_tag_end may_slash text [] rest ends calm = spells_close may_slash text rest ends calm
spells_tag_end may_slash text (attribute ∷ all) rest ends calm =
    let a : SpellsAttr text attribute ends.0 = spells_attr text attribute ends.0 ends.1 (tag_some may_slash ends.0 all rest ends.2) calm in
    let t : SpellsTagEnd may_slash ends.0 all rest = spells_tag_end may_slash ends.0 all rest ends.2 a.calm in
    let close : List ℕ = t.space ++ (closing t.slash ++ chars rest) in
    record {
      attrs = a.spelled ∷ t.attrs;
      space = t.space;
      slash = t.slash;
      is = a.is ∙ ap (λ (cs : List ℕ). written_attr a.spelled ++ cs) t.is ∙ sym (append_assoc (written_attr a.spelled) (flat_map written_attr t.attrs) close);
      means = ap (λ x. x ∷ map attr_of t.attrs) a.means ∙ ap (λ xs. attr_token attribute ∷ xs) t.means;
      gaps = t.gaps;
      passes = both_true (subst (λ (cs : List ℕ). is_spelled_attr a.spelled cs ≡ true) t.is a.passes) t.passes;
      named = (a.named, t.named);
      slashed = t.slashed;
      calm = t.calm;
    }

-- ---- attributes with one name

same_text : (a b : List ℕ) → IsUtf8 a → IsUtf8 b → chars a ≡ chars b → a ≡ b
same_text a b u v e = sym (encodes-chars a u) ∙ ap encode_utf8_all e ∙ encodes-chars b v

same_test : (a b : List ℕ) → IsUtf8 a → IsUtf8 b → bytes_eq (chars a) (chars b) ≡ bytes_eq a b
same_test a b u v = by_tests (bytes_eq (chars a) (chars b)) (bytes_eq a b) refl refl
  where
    by_tests : (x y : Bool) → bytes_eq (chars a) (chars b) ≡ x → bytes_eq a b ≡ y → x ≡ y
    by_tests true true e f = refl
    by_tests false false e f = refl
    by_tests true false e f = sym ((bytes_eq-Decides a b).1 (same_text a b u v ((bytes_eq-Decides (chars a) (chars b)).0 e))) ∙ f
    by_tests false true e f = sym e ∙ (bytes_eq-Decides (chars a) (chars b)).1 (ap chars ((bytes_eq-Decides a b).0 f))

-- the names that were met, in both lists
abbrev Met : List Attr → List Attribute → Type 0
Met before first = (name : List ℕ) → IsUtf8 name → list_any (λ a. bytes_eq a.name (chars name)) before ≡ has_name name first

has_more : (name : List ℕ) (first : List Attribute) (a : Attribute) → has_name name (first ++ a ∷ []) ≡ (bytes_eq a.name name || has_name name first)
has_more name [] a = refl
has_more name (b ∷ first) a = ap (λ x. bytes_eq b.name name || x) (has_more name first a) ∙ swapped (bytes_eq b.name name) (bytes_eq a.name name) (has_name name first)
  where
    swapped : (x y z : Bool) → (x || (y || z)) ≡ (y || (x || z))
    swapped true true z = refl
    swapped true false z = refl
    swapped false true z = refl
    swapped false false z = refl

met_more : (before : List Attr) (first : List Attribute) (a : Attribute) → IsUtf8 a.name → Met before first → Met (attr_token a ∷ before) (first ++ a ∷ [])
met_more before first a utf8 met name u =
    ap (λ x. x || list_any (λ b. bytes_eq b.name (chars name)) before) (same_test a.name name utf8 u) ∙ ap (λ x. bytes_eq a.name name || x) (met name u) ∙ sym (has_more name first a)

map_last : (first : List Attribute) (a : Attribute) (rest : List Attr) → map attr_token (first ++ a ∷ []) ++ rest ≡ map attr_token first ++ attr_token a ∷ rest
map_last [] a rest = refl
map_last (b ∷ first) a rest = ap (λ xs. attr_token b ∷ xs) (map_last first a rest)

kept_same : (before : List Attr) (first all : List Attribute) → Met before first → HaveUtf8Names all → map attr_token (kept_after first all) ≡ map attr_token first ++ distinct_behind before (map attr_token all)
kept_same before first [] met named = sym (append-nil (map attr_token first))
kept_same before first (a ∷ all) met named =
    by_test (has_name a.name first) refl (kept_same before first all met named.1) (kept_same (attr_token a ∷ before) (first ++ a ∷ []) all (met_more before first a named.0 met) named.1)
  where
    tokens : List Attr
    tokens = map attr_token all

    by_test : (x : Bool) → has_name a.name first ≡ x → map attr_token (kept_after first all) ≡ map attr_token first ++ distinct_behind before tokens →
        map attr_token (kept_after (first ++ a ∷ []) all) ≡ map attr_token (first ++ a ∷ []) ++ distinct_behind (attr_token a ∷ before) tokens →
        map attr_token (kept_after (if has_name a.name first then first else first ++ a ∷ []) all) ≡ map attr_token first ++ distinct_behind before (attr_token a ∷ tokens)
    by_test true e old new = rw (met a.name named.0 ∙ e, e) old
    by_test false e old new = rw (met a.name named.0 ∙ e, e) (new ∙ map_last first a (distinct_behind (attr_token a ∷ before) tokens))

pub distinct_kept : (all : List Attribute) → HaveUtf8Names all → distinct (map attr_token all) ≡ map attr_token (kept_after [] all)
distinct_kept all named = sym (kept_same [] [] all (λ name u. refl) named)

more_names : (first : List Attribute) (a : Attribute) → HaveUtf8Names first → IsUtf8 a.name → HaveUtf8Names (first ++ a ∷ [])
more_names [] a names own = (own, tt)
more_names (b ∷ first) a names own = (names.0, more_names first a names.1 own)

kept_names : (first all : List Attribute) → HaveUtf8Names first → HaveUtf8Names all → HaveUtf8Names (kept_after first all)
kept_names first [] names more = names
kept_names first (a ∷ all) names more = by_test (has_name a.name first) (kept_names first all names more.1) (kept_names (first ++ a ∷ []) all (more_names first a names more.0) more.1)
  where
    by_test : (x : Bool) → HaveUtf8Names (kept_after first all) → HaveUtf8Names (kept_after (first ++ a ∷ []) all) → HaveUtf8Names (kept_after (if x then first else first ++ a ∷ []) all)
    by_test true old new = old
    by_test false old new = new

-- ---- tags

-- the text is spelled as a start tag of this name with these attributes, and then the rest
pub record SpellsStart (text name : List ℕ) (attributes : List Attribute) (rest : List ℕ) : Type 0 where
  pub tag : SpelledTag
  pub is : chars text ≡ written_start tag ++ chars rest
  pub means : start_token tag ≡ AStart (chars name) (map attr_token attributes) tag.slash
  pub named : lowered tag.name ≡ chars name
  pub passes : is_spelled_start tag (chars rest) ≡ true
  pub slashed : tag.slash ≡ true → is_among name void_names ≡ true
  pub utf8_names : HaveUtf8Names attributes
  pub calm : IsCalm rest

start_ascii : (may_slash : Bool) (text : List ℕ) (all : List Attribute) (rest : List ℕ) → EndsTag may_slash text all rest → AsciiFirst text
start_ascii may_slash text [] rest ends = by_case ends.2
  where
    by_case : ((text ≡ ends.0 ++ (62 ∷ rest)) ⊎ ((may_slash ≡ true) × (text ≡ ends.0 ++ (47 ∷ 62 ∷ rest)))) → AsciiFirst text
    by_case (inl is) = subst AsciiFirst (sym is) (space_ascii ends.0 62 rest ends.1 (omega arith))
    by_case (inr is) = subst AsciiFirst (sym is.1) (space_ascii ends.0 47 (62 ∷ rest) ends.1 (omega arith))
start_ascii may_slash text (attribute ∷ all) rest ends = subst AsciiFirst (sym ends.1.is) (some_ascii ends.1.space _ ends.1.is_space ends.1.some_space)

pub spells_start : (text name : List ℕ) (attributes : List Attribute) (rest : List ℕ) → BeginsStart text name attributes rest → IsCalm text → SpellsStart text name attributes rest
spells_start text name attributes rest b calm =
    let whole : IsCalm (60 ∷ (b.written ++ b.more)) = calm_is text (60 ∷ (b.written ++ b.more)) b.is calm in
    let p : Past 60 (b.written ++ b.more) = past 60 (b.written ++ b.more) (omega arith) whole.utf8 in
    let inner : IsCalm (b.written ++ b.more) = calm_past 60 (b.written ++ b.more) (omega arith) whole in
    let ascii : AsciiFirst b.more = start_ascii (is_among name void_names) b.more b.all rest b.ends in
    let k : Cut b.written b.more = cut b.written b.more inner.utf8 ascii in
    let t : SpellsTagEnd (is_among name void_names) b.more b.all rest = spells_tag_end (is_among name void_names) b.more b.all rest b.ends (calm_cut b.written b.more inner ascii) in
    let named : lowered (chars b.written) ≡ chars name = sym (lowered_chars b.written k.own) ∙ ap chars (sym b.names.1) in
    let close : List ℕ = t.space ++ closing t.slash in
    record {
      tag = record { name = chars b.written; attrs = t.attrs; space = t.space; slash = t.slash };
      is = ap chars b.is ∙ p.chars
          ∙ ap (λ (cs : List ℕ). 60 ∷ cs) (k.both ∙ ap (λ (cs : List ℕ). chars b.written ++ cs)
          (t.is ∙ ap (λ (cs : List ℕ). flat_map written_attr t.attrs ++ cs) (sym (append_assoc t.space (closing t.slash) (chars rest))) ∙ sym (append_assoc (flat_map written_attr t.attrs) close (chars rest)))
          ∙ sym (append_assoc (chars b.written) (flat_map written_attr t.attrs ++ close) (chars rest)));
      means = ap (λ n. AStart n (distinct (map attr_of t.attrs)) t.slash) named
          ∙ ap (λ (them : List Attr). AStart (chars name) them t.slash) (ap distinct t.means ∙ distinct_kept b.all t.named ∙ ap (map attr_token) (sym b.kept));
      named = named;
      passes = both_true (spelled_tag_name b.written k.own b.names.0) (both_true t.gaps t.passes);
      slashed = t.slashed;
      utf8_names = subst HaveUtf8Names (sym b.kept) (kept_names [] b.all tt t.named);
      calm = t.calm;
    }

-- the text is spelled as an end tag of this name, and then the rest
pub record SpellsEnd (text name rest : List ℕ) : Type 0 where
  pub written : List ℕ
  pub space : List ℕ
  pub is : chars text ≡ written_end written space ++ chars rest
  pub named : lowered written ≡ chars name
  pub is_name : is_spelled_tag_name written ≡ true
  pub gaps : list_all is_gap_char space ≡ true
  pub calm : IsCalm rest

pub spells_end : (text name rest : List ℕ) → BeginsEnd text name rest → IsCalm text → SpellsEnd text name rest
spells_end text name rest b calm =
    let behind : List ℕ = b.space ++ (62 ∷ rest) in
    let whole : IsCalm (60 ∷ 47 ∷ (b.written ++ behind)) = calm_is text (60 ∷ 47 ∷ (b.written ++ behind)) b.is calm in
    let p : Past 60 (47 ∷ (b.written ++ behind)) = past 60 (47 ∷ (b.written ++ behind)) (omega arith) whole.utf8 in
    let one : IsCalm (47 ∷ (b.written ++ behind)) = calm_past 60 (47 ∷ (b.written ++ behind)) (omega arith) whole in
    let q : Past 47 (b.written ++ behind) = past 47 (b.written ++ behind) (omega arith) one.utf8 in
    let inner : IsCalm (b.written ++ behind) = calm_past 47 (b.written ++ behind) (omega arith) one in
    let ascii : AsciiFirst behind = space_ascii b.space 62 rest b.is_space (omega arith) in
    let k : Cut b.written behind = cut b.written behind inner.utf8 ascii in
    let after : IsCalm behind = calm_cut b.written behind inner ascii in
    let last : IsCalm (62 ∷ rest) = calm_space b.space (62 ∷ rest) b.is_space after in
    record {
      written = chars b.written;
      space = b.space;
      is = ap chars b.is ∙ p.chars
          ∙ ap (λ (cs : List ℕ). 60 ∷ cs) (q.chars ∙ ap (λ (cs : List ℕ). 47 ∷ cs) (k.both ∙ ap (λ (cs : List ℕ). chars b.written ++ cs)
          (space_chars b.space (62 ∷ rest) b.is_space after ∙ ap (λ (cs : List ℕ). b.space ++ cs) (past 62 rest (omega arith) last.utf8).chars ∙ sym (append_assoc b.space (62 ∷ []) (chars rest)))
          ∙ sym (append_assoc (chars b.written) (b.space ++ 62 ∷ []) (chars rest))));
      named = sym (lowered_chars b.written k.own) ∙ ap chars (sym b.names.1);
      is_name = spelled_tag_name b.written k.own b.names.0;
      gaps = calm_gaps b.space (62 ∷ rest) b.is_space after.calm;
      calm = calm_past 62 rest (omega arith) last;
    }
