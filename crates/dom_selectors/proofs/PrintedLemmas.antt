-- A string that was written is read as it was.
use Rattle.std.proofs.Common.{◌≡◌, ℕ, ◌+◌, ◌*◌, ◌/◌, ◌%◌, ◌<◌, ◌≤◌, List, [], ◌∷◌, ◌++◌, Bool, true, false, ◌||◌, cond, nat_eq, nat_lt, take, drop, Option, Some, encode_utf8_all, flat_map, map, MatchBool, append_assoc, refl, sym, ap, ◌∙◌, subst, arith, inl, inr}
use Rattle.std.specs.Char.{digit_char, digit_value}
use Rattle.std.specs.List.{prefix_len}
use Rattle.std.specs.Str.Parse.{digits_value}
use Rattle.std.proofs.Math.Utf8.{scalar, low_scalar}
use Rattle.std.proofs.lemmas.Bool.{or_cases}
use Rattle.std.proofs.lemmas.Bool.Decides.{nat_tests}
use Rattle.std.proofs.lemmas.Int.Digits.{digits_value_push}
use Rattle.std.proofs.lemmas.Str.{digit_value-digit_char}
use Rattle.dom_selectors.specs.Css.{css_char, css_string, hex_of, is_control, shown}
use Rattle.dom_selectors.specs.Characters.{is_line_end}
use Rattle.dom_selectors.specs.Names.{SpellsEscape, after_space, char_of, hex_len, is_hex}
use Rattle.dom_selectors.specs.Spelling.{Many}
use Rattle.dom_selectors.specs.Strings.{SpellsPiece, SpellsString, SpellsStringEscape, present}

-- a fact under a test that is known
when_so : (b : Bool) (P Q : Type 0) → b ≡ true → P → MatchBool b P Q
when_so b P Q e p = subst (λ t. MatchBool t P Q) (sym e) p

when_not : (b : Bool) (P Q : Type 0) → b ≡ false → Q → MatchBool b P Q
when_not b P Q e q = subst (λ t. MatchBool t P Q) (sym e) q

digit_high : (d : ℕ) → 48 ≤ digit_char d
digit_high d = by (nat_lt d 10)
  where
    by : (b : Bool) → 48 ≤ cond b (48 + d) (87 + d)
    by true = omega arith
    by false = omega arith

no_line_end : (c : ℕ) → 32 ≤ c → is_line_end c ≡ false
no_line_end c high = grind (arith, nat_tests)

hex_is : (d : ℕ) → d < 16 → is_hex (digit_char d) ≡ true
hex_is d low = ap (λ v. nat_lt v 16) (digit_value-digit_char d (omega arith)) ∙ (grind (arith, nat_tests))

space_gone : (more : List ℕ) → after_space (32 ∷ more) ≡ more
space_gone [] = refl
space_gone (d ∷ more) = refl

char_is : (c : ℕ) → 0 < c → c < 256 → char_of c ≡ c
char_is c some low =
    let zero : nat_eq c 0 ≡ false = grind (arith, nat_tests) in
    ap (λ b. cond b 65533 (cond (scalar c) c 65533)) zero ∙ ap (λ b. cond b c 65533) (low_scalar c (omega arith))

one_value : (x : ℕ) → digits_value 16 (x ∷ []) ≡ digit_value x
one_value x = let push = digits_value_push 16 [] x in let none : digits_value 16 [] ≡ 0 = refl in omega arith

two_value : (x y : ℕ) → digits_value 16 (x ∷ y ∷ []) ≡ digit_value x * 16 + digit_value y
two_value x y = digits_value_push 16 (x ∷ []) y ∙ ap (λ v. v * 16 + digit_value y) (one_value x)

one_digit : (c : ℕ) (more : List ℕ) → 0 < c → c < 16 → SpellsEscape c (digit_char c ∷ 32 ∷ more) more
one_digit c more some low =
    let x = digit_char c in
    let hex = hex_is c low in
    let len : hex_len (x ∷ 32 ∷ more) ≡ 1 = ap (λ b. cond b (1 + prefix_len is_hex (take 5 (32 ∷ more))) 0) hex in
    let value : digits_value 16 (take (hex_len (x ∷ 32 ∷ more)) (x ∷ 32 ∷ more)) ≡ c =
    ap (λ n. digits_value 16 (take n (x ∷ 32 ∷ more))) len ∙ one_value x ∙ digit_value-digit_char c (omega arith) in
    let rest : after_space (drop (hex_len (x ∷ 32 ∷ more)) (x ∷ 32 ∷ more)) ≡ more = ap (λ n. after_space (drop n (x ∷ 32 ∷ more))) len ∙ space_gone more in
    when_so (is_hex x) _ _ hex (sym (ap char_of value ∙ char_is c some (omega arith)), sym rest)

two_digits : (c : ℕ) (more : List ℕ) → 16 ≤ c → c < 256 → SpellsEscape c (digit_char (c / 16) ∷ digit_char (c % 16) ∷ 32 ∷ more) more
two_digits c more high low =
    let x = digit_char (c / 16) in
    let y = digit_char (c % 16) in
    let upper : c / 16 < 16 = omega arith in
    let lower : c % 16 < 16 = omega arith in
    let hex = hex_is (c / 16) upper in
    let next = hex_is (c % 16) lower in
    let one : prefix_len is_hex (take 5 (y ∷ 32 ∷ more)) ≡ 1 = ap (λ b. cond b (1 + prefix_len is_hex (take 4 (32 ∷ more))) 0) next in
    let len : hex_len (x ∷ y ∷ 32 ∷ more) ≡ 2 = ap (λ b. cond b (1 + prefix_len is_hex (take 5 (y ∷ 32 ∷ more))) 0) hex ∙ ap (λ n. 1 + n) one in
    let first = digit_value-digit_char (c / 16) (omega arith) in
    let second = digit_value-digit_char (c % 16) (omega arith) in
    let both = two_value x y in
    let sum : digits_value 16 (x ∷ y ∷ []) ≡ c = omega arith in
    let value : digits_value 16 (take (hex_len (x ∷ y ∷ 32 ∷ more)) (x ∷ y ∷ 32 ∷ more)) ≡ c = ap (λ n. digits_value 16 (take n (x ∷ y ∷ 32 ∷ more))) len ∙ sum in
    let rest : after_space (drop (hex_len (x ∷ y ∷ 32 ∷ more)) (x ∷ y ∷ 32 ∷ more)) ≡ more = ap (λ n. after_space (drop n (x ∷ y ∷ 32 ∷ more))) len ∙ space_gone more in
    when_so (is_hex x) _ _ hex (sym (ap char_of value ∙ char_is c (omega arith) low), sym rest)

-- the number of a control character, as an escape in a string
number_reads : (c : ℕ) (more : List ℕ) → 0 < c → c < 256 → SpellsStringEscape (Some c) ((hex_of c ++ 32 ∷ []) ++ more) more
number_reads c more some low = by (nat_lt c 16) refl
  where
    by : (b : Bool) → nat_lt c 16 ≡ b → SpellsStringEscape (Some c) ((cond b (digit_char c ∷ []) (digit_char (c / 16) ∷ digit_char (c % 16) ∷ []) ++ 32 ∷ []) ++ more) more
    by true e =
        let small : c < 16 = grind (arith, nat_tests) in
        when_not (is_line_end (digit_char c)) _ _ (let high = digit_high c in no_line_end (digit_char c) (omega arith)) (c, one_digit c more some small, refl)
    by false e =
        let big : 16 ≤ c = grind (arith, nat_tests) in
        when_not (is_line_end (digit_char (c / 16))) _ _ (let high = digit_high (c / 16) in no_line_end (digit_char (c / 16)) (omega arith)) (c, two_digits c more big low, refl)

quote_reads : (more : List ℕ) → SpellsPiece 34 (Some 34) (92 ∷ 34 ∷ more) more
quote_reads more = (refl, (34, (refl, refl, refl), refl))

backslash_reads : (more : List ℕ) → SpellsPiece 34 (Some 92) (92 ∷ 92 ∷ more) more
backslash_reads more = (refl, (92, (refl, refl, refl), refl))

control_low : (c : ℕ) → is_control c ≡ true → c < 256
control_low c e = elim (or_cases (nat_lt c 32) (nat_eq c 127) e) [
  | inl small ↦ (let less : c < 32 = grind (arith, nat_tests) in omega arith)
  | inr last ↦ (let is : c ≡ 127 = grind (arith, nat_tests) in omega arith)
]

marked_reads : (c : ℕ) (more : List ℕ) → (nat_eq c 34 || nat_eq c 92) ≡ true → SpellsPiece 34 (Some c) (92 ∷ c ∷ more) more
marked_reads c more e = elim (or_cases (nat_eq c 34) (nat_eq c 92) e) [
  | inl quote ↦ (let is : c ≡ 34 = grind (arith, nat_tests) in subst (λ (d : ℕ). SpellsPiece 34 (Some d) (92 ∷ d ∷ more) more) (sym is) (quote_reads more))
  | inr backslash ↦ (let is : c ≡ 92 = grind (arith, nat_tests) in subst (λ (d : ℕ). SpellsPiece 34 (Some d) (92 ∷ d ∷ more) more) (sym is) (backslash_reads more))
]

plain_reads : (c : ℕ) (more : List ℕ) → is_control c ≡ false → (nat_eq c 34 || nat_eq c 92) ≡ false → SpellsPiece 34 (Some c) (c ∷ more) more
plain_reads c more control e =
    let high : 32 ≤ c = grind (arith, nat_tests) in
    let quote : nat_eq c 34 ≡ false = grind (arith, nat_tests) in
    let backslash : nat_eq c 92 ≡ false = grind (arith, nat_tests) in
    (quote, when_not (nat_eq c 92) _ _ backslash (no_line_end c high, refl, refl))

piece_reads : (c : ℕ) (more : List ℕ) → SpellsPiece 34 (Some (shown c)) (css_char c ++ more) more
piece_reads c more = by (nat_eq c 0) (is_control c) (nat_eq c 34 || nat_eq c 92) refl refl refl
  where
    by : (a b d : Bool) → nat_eq c 0 ≡ a → is_control c ≡ b → (nat_eq c 34 || nat_eq c 92) ≡ d →
        SpellsPiece 34 (Some (cond a 65533 c)) (cond a (65533 ∷ []) (cond b (92 ∷ hex_of c ++ 32 ∷ []) (cond d (92 ∷ c ∷ []) (c ∷ []))) ++ more) more
    by true b d e f g = (refl, (refl, refl, refl))
    by false true d e f g = (refl, number_reads c more (grind (arith, nat_tests)) (control_low c f))
    by false false true e f g = marked_reads c more g
    by false false false e f g = plain_reads c more f g

abbrev pieces_of : List ℕ → List (Option ℕ)
pieces_of text = map (λ c. Some (shown c)) text

many_read : (text rest : List ℕ) → Many (SpellsPiece 34) (pieces_of text) (flat_map css_char text ++ 34 ∷ rest) (34 ∷ rest)
many_read [] rest = refl
many_read (c ∷ text) rest =
    let more = flat_map css_char text ++ 34 ∷ rest in
    (more, subst (λ t. SpellsPiece 34 (Some (shown c)) t more) (sym (append_assoc (css_char c) (flat_map css_char text) (34 ∷ rest))) (piece_reads c more), many_read text rest)

present_all : (text : List ℕ) → present (pieces_of text) ≡ map shown text
present_all [] = refl
present_all (c ∷ text) = ap (λ cs. shown c ∷ cs) (present_all text)

pub printed_reads : (text rest : List ℕ) → SpellsString (encode_utf8_all (map shown text)) (css_string text ++ rest) rest
printed_reads text rest = record {
  quote = 34;
  is_quote = refl;
  inside = flat_map css_char text ++ 34 ∷ rest;
  opens = append_assoc (34 ∷ flat_map css_char text) (34 ∷ []) rest;
  pieces = pieces_of text;
  run = record { each = many_read text rest; ends = refl };
  is = ap encode_utf8_all (sym (present_all text));
}
