-- The references in a text, as they are read.
use Rattle.std.proofs.Common.{◌≡◌, ℕ, zero, suc, ◌+◌, ◌-◌, ◌*◌, ◌==◌, ◌<◌, ◌≤◌, Bool, true, false, not, List, [], ◌∷◌, ◌++◌, length, take, drop, drop-cons, get_or, add-one, Option, None, Some, refl, sym, ◌∙◌, ap, subst, arith, length-drop, append-nil}
use Rattle.std.specs.Prelude.{codes, nat_lt, nat_le, ◌||◌, unwrap_or}
use Rattle.std.proofs.Math.Nat.{mul-le-mul_left}
use Rattle.std.specs.Char.{encode_utf8, digit_value}
use Rattle.std.specs.List.{slice_range}
use Rattle.std.specs.Str.{IsUtf8, IsCharBoundary}
use Rattle.std.proofs.lemmas.Bool.{and_parts, not-true, ne_eqb, eq-eqb, eqb-true, le-ltb, lt-ltb, le-leb}
use Rattle.std.proofs.lemmas.List.{get_or-take, get_or-drop, length-take, take-append-drop}
use Rattle.std.proofs.lemmas.Slice.Eq.{bytes_eq-Decides}
use Rattle.std.specs.Option.{option_map_or}
use Rattle.memchr.specs.Find.{Nowhere, NoneBefore, Passes, is_byte}
use Rattle.dom_markup.specs.declared.references.Reference.{Reference}
use Rattle.std.proofs.lemmas.Str.{encode_ascii, IsCharBoundary-after_ascii}
use Rattle.dom_markup.specs.Escaping.{lacks}
use Rattle.dom_markup.proofs.html.InertLemmas.{lacks_from}
use Rattle.dom_markup.specs.References.{decoded, decoded_after, is_numbered, numeral, begins, reference, refers}

-- bytes before the first `&` are read as they are
pub decoded-plain : (xs more : List ℕ) → lacks 38 xs ≡ true → decoded (xs ++ more) ≡ xs ++ decoded more
decoded-plain [] more none = refl
decoded-plain (x ∷ xs) more none =
    let parts = and_parts (not (x == 38)) (lacks 38 xs) none in
    let here : (x == 38) ≡ false = not-true (x == 38) parts.0 in
    rw here (ap (λ t. x ∷ t) (decoded-plain xs more parts.1))

-- ---- references as they are read

numbered-large : (number : ℕ) → 1114112 ≤ number → is_numbered number ≡ false
numbered-large number large =
    let high : nat_lt number 55296 ≡ false = le-ltb number 55296 (omega arith) in
    let over : nat_lt number 1114112 ≡ false = le-ltb number 1114112 large in
    let low : nat_le 57344 number ≡ true = le-leb 57344 number (omega arith) in
    rw (high, low, over) refl

grows : (number base digit : ℕ) → 2 ≤ base → 1114112 ≤ number → 1114112 ≤ number * base + digit
grows number base digit some large = let one : 1 ≤ base = omega arith in omega (arith, mul-le-mul_left number one)

-- a number that is too large stays so
pub numeral-large : (base number count : ℕ) (bytes : List ℕ) → 2 ≤ base → 1114112 ≤ number → numeral base number count bytes ≡ None
numeral-large base number count [] some large = refl
numeral-large base number count (b ∷ rest) some large = by_byte (b == 59) (nat_lt (digit_value b) base) refl refl (numeral-large base (number * base + digit_value b) (count + 1) rest some (grows number base (digit_value b) some large))
  where
    by_byte : (x y : Bool) → (b == 59) ≡ x → nat_lt (digit_value b) base ≡ y → numeral base (number * base + digit_value b) (count + 1) rest ≡ None → numeral base number count (b ∷ rest) ≡ None
    by_byte true y p q more = rw (p, numbered-large number large) refl
    by_byte false true p q more = rw (p, q) more
    by_byte false false p q more = rw (p, q) refl

-- after a digit
pub numeral-over : (base number count : ℕ) (bytes : List ℕ) (i digit : ℕ) → i < length bytes → (get_or bytes i 0 ≡ 59 → ⊥) → digit_value (get_or bytes i 0) < base → digit ≡ digit_value (get_or bytes i 0) → 2 ≤ base → 1114112 ≤ number * base + digit →
    numeral base number count (drop i bytes) ≡ None
numeral-over base number count bytes i digit within other below is some large =
    let b = get_or bytes i 0 in
    let here : drop i bytes ≡ b ∷ drop (suc i) bytes = drop-cons bytes i 0 within in
    let p : (b == 59) ≡ false = ne_eqb b 59 other in
    let q : nat_lt (digit_value b) base ≡ true = lt-ltb (digit_value b) base below in
    let next : numeral base number count (b ∷ drop (suc i) bytes) ≡ numeral base (number * base + digit_value b) (count + 1) (drop (suc i) bytes) = rw (p, q) refl in
    let over : 1114112 ≤ number * base + digit_value b = omega (arith, is, large) in
    ap (numeral base number count) here ∙ (next ∙ numeral-large base (number * base + digit_value b) (count + 1) (drop (suc i) bytes) some over)

decoded-after : (n : ℕ) (bytes : List ℕ) → decoded_after n bytes ≡ decoded (drop n bytes)
decoded-after zero bytes = refl
decoded-after (suc n) [] = refl
decoded-after (suc n) (b ∷ bytes) = decoded-after n bytes

-- a reference ends with a semicolon
pub record Ends (bytes : List ℕ) (len : ℕ) : Type 0 where
  pub last : ℕ
  pub is : len ≡ last + 1
  pub within : last < length bytes
  pub semicolon : get_or bytes last 0 ≡ 59

abbrev pub len_of : Option Reference → ℕ
len_of found = option_map_or (λ r. r.len) found 0

begins-ends : (after name : List ℕ) (n : ℕ) → begins after name ≡ true → length name ≡ n + 1 → get_or name n 0 ≡ 59 → Ends after (n + 1)
begins-ends after name n same len last =
    let front : name ≡ take (length name) after = (bytes_eq-Decides name (take (length name) after)).0 same in
    let within : n < length after = omega (arith, ap length front, length-take (length name) after, len) in
    record {
      last = n;
      is = refl;
      within = within;
      semicolon = sym (get_or-take (length name) after n 0 (omega (arith, len))) ∙ (ap (λ t. get_or t n 0) (sym front) ∙ last);
    }

numeral-ends : (base number count : ℕ) (bytes : List ℕ) (found : Reference) → numeral base number count bytes ≡ Some found → (k : ℕ) × (found.len ≡ count + k + 1) × (k < length bytes) × (get_or bytes k 0 ≡ 59)
numeral-ends base number count [] found is = absurd (cc)
numeral-ends base number count (b ∷ rest) found is = by_byte (b == 59) (is_numbered number) (nat_lt (digit_value b) base) refl refl refl (numeral-ends base (number * base + digit_value b) (count + 1) rest found)
  where
    by_byte : (x y z : Bool) → (b == 59) ≡ x → is_numbered number ≡ y → nat_lt (digit_value b) base ≡ z →
        (numeral base (number * base + digit_value b) (count + 1) rest ≡ Some found → (k : ℕ) × (found.len ≡ count + 1 + k + 1) × (k < length rest) × (get_or rest k 0 ≡ 59)) →
        (k : ℕ) × (found.len ≡ count + k + 1) × (k < length (b ∷ rest)) × (get_or (b ∷ rest) k 0 ≡ 59)
    by_byte true true z p q r more =
        let here : numeral base number count (b ∷ rest) ≡ refers number (count + 1) = rw (p, q) refl in
        let len : count + 1 ≡ found.len = ap len_of (sym here ∙ is) in
        (0, omega arith, omega arith, eqb-true b 59 p)
    by_byte true false z p q r more =
        let here : numeral base number count (b ∷ rest) ≡ None = rw (p, q) refl in
        absurd (cc)
    by_byte false y true p q r more =
        let here : numeral base number count (b ∷ rest) ≡ numeral base (number * base + digit_value b) (count + 1) rest = rw (p, r) refl in
        let later = more (sym here ∙ is) in
        (suc later.0, omega (arith, later.1), omega (arith, later.2), later.3)
    by_byte false y false p q r more =
        let here : numeral base number count (b ∷ rest) ≡ None = rw (p, r) refl in
        absurd (cc)

named-ends : (after name : List ℕ) (n character : ℕ) (found : Reference) → begins after name ≡ true → length name ≡ n + 1 → get_or name n 0 ≡ 59 → refers character (n + 1) ≡ Some found → Ends after found.len
named-ends after name n character found same len last is = subst (Ends after) (ap len_of is) (begins-ends after name n same len last)

numbered-ends : (after : List ℕ) (base before : ℕ) (found : Reference) → numeral base 0 before (drop before after) ≡ Some found → Ends after found.len
numbered-ends after base before found is =
    let ends = numeral-ends base 0 before (drop before after) found is in
    record {
      last = before + ends.0;
      is = ends.1;
      within = omega (arith, ends.2, length-drop before after);
      semicolon = sym (get_or-drop before after ends.0 0) ∙ ends.3;
    }

reference-ends : (after : List ℕ) (found : Reference) → reference after ≡ Some found → Ends after found.len
reference-ends after found is =
    by_name (begins after (codes "amp;")) (begins after (codes "lt;")) (begins after (codes "gt;")) (begins after (codes "quot;")) (begins after (codes "nbsp;")) (begins after (codes "#x") || begins after (codes "#X")) (begins after (codes "#")) refl refl refl refl refl refl refl
  where
    by_name : (t u v w x y z : Bool) → begins after (codes "amp;") ≡ t → begins after (codes "lt;") ≡ u → begins after (codes "gt;") ≡ v → begins after (codes "quot;") ≡ w → begins after (codes "nbsp;") ≡ x →
        (begins after (codes "#x") || begins after (codes "#X")) ≡ y → begins after (codes "#") ≡ z → Ends after found.len
    by_name true u v w x y z a b c d e f g = named-ends after (codes "amp;") 3 38 found a refl refl (rw a at is)
    by_name false true v w x y z a b c d e f g = named-ends after (codes "lt;") 2 60 found b refl refl (rw (a, b) at is)
    by_name false false true w x y z a b c d e f g = named-ends after (codes "gt;") 2 62 found c refl refl (rw (a, b, c) at is)
    by_name false false false true x y z a b c d e f g = named-ends after (codes "quot;") 4 34 found d refl refl (rw (a, b, c, d) at is)
    by_name false false false false true y z a b c d e f g = named-ends after (codes "nbsp;") 4 160 found e refl refl (rw (a, b, c, d, e) at is)
    by_name false false false false false true z a b c d e f g = numbered-ends after 16 2 found (rw (a, b, c, d, e, f) at is)
    by_name false false false false false false true a b c d e f g = numbered-ends after 10 1 found (rw (a, b, c, d, e, f, g) at is)
    by_name false false false false false false false a b c d e f g = let no : None ≡ Some found = rw (a, b, c, d, e, f, g) at is in absurd (cc)

-- an `&` that begins no reference stands for itself
abbrev pub bare : Reference
bare = record { character = 38; len = 0 }

pub reference-boundary : (after : List ℕ) (found : Reference) → IsUtf8 after → found ≡ unwrap_or (reference after) bare → 0 < found.len → IsCharBoundary after found.len
reference-boundary after found utf8 is some = by_case (reference after) refl
  where
    by_case : (r : Option Reference) → reference after ≡ r → IsCharBoundary after found.len
    by_case None none = let empty : found.len ≡ 0 = ap (λ f. f.len) (is ∙ ap (λ r. unwrap_or r bare) none) in absurd (omega arith)
    by_case (Some f) stands =
        let same : f ≡ found = sym (is ∙ ap (λ r. unwrap_or r bare) stands) in
        let ends = reference-ends after f stands in
        subst (IsCharBoundary after) (sym ends.is ∙ ap (λ f. f.len) same) (IsCharBoundary-after_ascii after ends.last utf8 ends.within (omega (arith, ends.semicolon)))

decoded-reference : (after : List ℕ) (found : Reference) → found ≡ unwrap_or (reference after) bare → decoded (38 ∷ after) ≡ encode_utf8 found.character ++ decoded (drop found.len after)
decoded-reference after found is = by_case (reference after) refl
  where
    by_case : (r : Option Reference) → reference after ≡ r → decoded (38 ∷ after) ≡ encode_utf8 found.character ++ decoded (drop found.len after)
    by_case None none =
        let same : bare ≡ found = sym (is ∙ ap (λ r. unwrap_or r bare) none) in
        let here : decoded (38 ∷ after) ≡ encode_utf8 38 ++ decoded after = rw (none, encode_ascii 38 (omega arith)) refl in
        here ∙ ap (λ f. encode_utf8 f.character ++ decoded (drop f.len after)) same
    by_case (Some f) stands =
        let same : f ≡ found = sym (is ∙ ap (λ r. unwrap_or r bare) stands) in
        let here : decoded (38 ∷ after) ≡ encode_utf8 f.character ++ decoded_after f.len after = rw stands refl in
        here ∙ (ap (λ t. encode_utf8 f.character ++ t) (decoded-after f.len after) ∙ ap (λ f. encode_utf8 f.character ++ decoded (drop f.len after)) same)

-- ---- a text that is cut at its first `&`

pub decoded-none : (text : List ℕ) → Nowhere (Passes (is_byte 38) text) 0 (length text) → decoded text ≡ text
decoded-none text none =
    let lack : lacks 38 text ≡ true = lacks_from 38 text (λ k below is. none k (omega arith) below (eq-eqb (get_or text k 0) 38 is)) in
    ap decoded (sym (append-nil text)) ∙ (decoded-plain text [] lack ∙ append-nil text)

-- a front in which no `&` stands is what it stands for
pub decoded-front : (text : List ℕ) (n : ℕ) → Nowhere (Passes (is_byte 38) text) 0 n → decoded (take n text) ≡ take n text
decoded-front text n none = decoded-none (take n text) (λ k low below passes.
    let short : k < n = omega (arith, below, length-take n text) in
    none k low short (sym (ap (is_byte 38) (get_or-take n text k 0 short)) ∙ passes))

pub decoded-first : (text before after rest : List ℕ) (at : ℕ) (found : Reference) → NoneBefore (Passes (is_byte 38) text) 0 (length text) at → Passes (is_byte 38) text at →
    before ≡ slice_range text 0 at → after ≡ drop (at + 1) text → found ≡ unwrap_or (reference after) bare → rest ≡ drop found.len after → decoded text ≡ before ++ (encode_utf8 found.character ++ decoded rest)
decoded-first text before after rest at found first passes begin end is left =
    let all : at - 0 ≡ at = omega arith in
    let front : before ≡ take at text = begin ∙ ap (λ n. take n text) all in
    let here : drop at text ≡ 38 ∷ after = drop-cons text at 0 first.high ∙ (ap (λ b. b ∷ drop (suc at) text) (eqb-true (get_or text at 0) 38 passes) ∙ ap (λ t. 38 ∷ t) (ap (λ n. drop n text) (sym (add-one at)) ∙ sym end)) in
    let whole : text ≡ before ++ (38 ∷ after) = sym (take-append-drop at text) ∙ (ap (λ t. take at text ++ t) here ∙ ap (λ t. t ++ (38 ∷ after)) (sym front)) in
    let lack : lacks 38 (take at text) ≡ true = lacks_from 38 (take at text) (λ k below same.
    let near : k < at = omega (arith, length-take at text) in
    first.before k (omega arith) near (eq-eqb (get_or text k 0) 38 (sym (get_or-take at text k 0 near) ∙ same))) in
    ap decoded whole ∙ (decoded-plain before (38 ∷ after) (ap (lacks 38) front ∙ lack) ∙ ap (λ t. before ++ t) (decoded-reference after found is ∙ ap (λ t. encode_utf8 found.character ++ decoded t) (sym left)))

pub decoded-shorter : (text after rest : List ℕ) (at n : ℕ) → at < length text → after ≡ drop (at + 1) text → rest ≡ drop n after → length rest < length text
decoded-shorter text after rest at n within end left = rw (left, end) (omega (arith, length-drop n (drop (at + 1) text), length-drop (at + 1) text))
