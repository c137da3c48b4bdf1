-- Names of elements and attributes that a sound policy has.
use Rattle.std.proofs.Common.{ℕ, ◌≡◌, ◌≢◌, ◌==◌, ◌<◌, ◌&&◌, ◌||◌, Bool, true, false, not, nat_eq, List, [], ◌∷◌, ◌++◌, refl, sym, ap, ◌∙◌, arith, inl, inr}
use Rattle.std.specs.Prelude.{codes, nat_lt}
use Rattle.std.specs.Char.{to_ascii_lowercase}
use Rattle.std.specs.List.{list_all}
use Rattle.std.specs.Str.{bytes_eq}
use Rattle.std.proofs.lemmas.Bool.{agree_below_at, and_from, and_parts, eqb-true, ltb-true, not-true, or_cases, true≢false}
use Rattle.std.proofs.lemmas.Slice.Eq.{bytes_eq-Decides}
use Rattle.dom_nodes.specs.Words.{is_among}
use Rattle.dom_markup.specs.Bytes.{folded, is_letter, is_name_byte}
use Rattle.dom_markup.specs.Escaping.{lacks}
use Rattle.dom_markup.specs.Markup.{IsTagName}
use Rattle.dom_markup.specs.Names.{raw_names, text_names}
use Rattle.dom_markup.specs.Plain.{IsPlainName}
use Rattle.page_trees.specs.ElementKinds.{kind_of, names_of}
use Rattle.calm_pages.specs.Calm.{begins, begins_other_tag}
use Rattle.dom_clean.specs.Policy.{is_simple, is_simple_byte, keepable_names, may_keep}
use Rattle.dom_clean.specs.Spelled.{Front, IsQuietName}
use Rattle.dom_clean.specs.Joined.{IsMarkupName, merges}
use Rattle.dom_clean.proofs.CalmText.{quiet-front}

-- ---- bytes

-- what is true of a simple byte
abbrev is_plain_byte : ℕ → Bool
is_plain_byte b = is_name_byte b && ((to_ascii_lowercase b == b) && (not (b == 38) && (not (b == 60) && (not (b == 0) && not (b == 13)))))

abbrev is_plain_if_simple : ℕ → Bool
is_plain_if_simple b = not (is_simple_byte b) || is_plain_byte b

simple_low : (b : ℕ) → is_simple_byte b ≡ true → b < 128
simple_low b is = elim (or_cases (nat_lt 96 b && nat_lt b 123) _ is) [
  | inl letter ↦ (let h = ltb-true b 123 (and_parts (nat_lt 96 b) (nat_lt b 123) letter).1 in omega (arith, h))
  | inr other ↦ elim (or_cases (nat_lt 47 b && nat_lt b 58) _ other) [
    | inl digit ↦ (let h = ltb-true b 58 (and_parts (nat_lt 47 b) (nat_lt b 58) digit).1 in omega (arith, h))
    | inr mark ↦ elim (or_cases (b == 45) (b == 95) mark) [
      | inl is ↦ (let h = eqb-true b 45 is in omega (arith, h))
      | inr is ↦ (let h = eqb-true b 95 is in omega (arith, h))
    ]
  ]
]

or_not : (a b : Bool) → (not a || b) ≡ true → a ≡ true → b ≡ true
or_not true b h is = h
or_not false b h is = absurd (true≢false (sym is))

plain_byte : (b : ℕ) → is_simple_byte b ≡ true → is_plain_byte b ≡ true
plain_byte b is = or_not (is_simple_byte b) (is_plain_byte b) (agree_below_at is_plain_if_simple (λ b. true) 128 b refl (simple_low b is)) is

all_plain : (name : List ℕ) → list_all is_simple_byte name ≡ true → list_all is_plain_byte name ≡ true
all_plain [] all = refl
all_plain (b ∷ name) all =
    let h = and_parts (is_simple_byte b) (list_all is_simple_byte name) all in
    and_from (is_plain_byte b) (list_all is_plain_byte name) (plain_byte b h.0) (all_plain name h.1)

-- ---- names of plain bytes

record IsPlain (name : List ℕ) : Type 0 where
  bytes : list_all is_name_byte name ≡ true
  folds : folded name ≡ name
  ampersand : lacks 38 name ≡ true
  less : lacks 60 name ≡ true
  null : lacks 0 name ≡ true
  carriage : lacks 13 name ≡ true

plain_name : (name : List ℕ) → list_all is_plain_byte name ≡ true → IsPlain name
plain_name [] all = record { bytes = refl; folds = refl; ampersand = refl; less = refl; null = refl; carriage = refl }
plain_name (b ∷ name) all =
    let h = and_parts (is_plain_byte b) (list_all is_plain_byte name) all in
    let a = and_parts (is_name_byte b) _ h.0 in
    let c = and_parts (to_ascii_lowercase b == b) _ a.1 in
    let d = and_parts (not (b == 38)) _ c.1 in
    let e = and_parts (not (b == 60)) _ d.1 in
    let f = and_parts (not (b == 0)) (not (b == 13)) e.1 in
    let more = plain_name name h.1 in
    record {
      bytes = and_from (is_name_byte b) (list_all is_name_byte name) a.0 more.bytes;
      folds = ap (λ k. k ∷ folded name) (eqb-true (to_ascii_lowercase b) b c.0) ∙ ap (λ l. b ∷ l) more.folds;
      ampersand = and_from (not (b == 38)) (lacks 38 name) d.0 more.ampersand;
      less = and_from (not (b == 60)) (lacks 60 name) e.0 more.less;
      null = and_from (not (b == 0)) (lacks 0 name) f.0 more.null;
      carriage = and_from (not (b == 13)) (lacks 13 name) f.1 more.carriage;
    }

pub simple_front : (name : List ℕ) → list_all is_simple_byte name ≡ true → Front name
simple_front name all = let is = plain_name name (all_plain name all) in quiet-front name is.ampersand is.less is.null is.carriage

simple_all : (name : List ℕ) → is_simple name ≡ true → list_all is_simple_byte name ≡ true
simple_all [] is = refl
simple_all (b ∷ name) is = is

simple_some : (name : List ℕ) → is_simple name ≡ true → name ≢ []
simple_some [] is = absurd (true≢false (sym is))
simple_some (b ∷ name) is = λ e. cc

pub simple_plain : (name : List ℕ) → is_simple name ≡ true → IsPlainName name
simple_plain name is = let plain = plain_name name (all_plain name (simple_all name is)) in (simple_some name is, plain.bytes, plain.folds)

pub simple_name_front : (name : List ℕ) → is_simple name ≡ true → Front name
simple_name_front name is = simple_front name (simple_all name is)

-- ---- names of elements

abbrev is_tag_name : List ℕ → Bool
is_tag_name [] = false
is_tag_name (b ∷ name) = is_letter b && list_all is_name_byte name

abbrev is_good : List ℕ → Bool
is_good name = list_all is_simple_byte name && (is_tag_name name && (not (is_among name raw_names) && (not (is_among name text_names) && (not (begins_other_tag name) && merges (kind_of name)))))

all_good : list_all is_good keepable_names ≡ true
unfolding keepable_names kind_of names_of raw_names text_names
all_good = refl

-- one of names that all pass
pub among_passes : (p : List ℕ → Bool) (names : List (List ℕ)) (name : List ℕ) → list_all p names ≡ true → is_among name names ≡ true → p name ≡ true
among_passes p [] name all is = absurd (true≢false (sym is))
among_passes p (one ∷ names) name all is =
    let h = and_parts (p one) (list_all p names) all in
    elim (or_cases (bytes_eq one name) (is_among name names) is) [
      | inl same ↦ ap p (sym ((bytes_eq-Decides one name).0 same)) ∙ h.0
      | inr later ↦ among_passes p names name h.1 later
    ]

good_name : (name : List ℕ) → may_keep name ≡ true → is_good name ≡ true
good_name name is = among_passes is_good keepable_names name all_good is

tag_name : (name : List ℕ) → is_tag_name name ≡ true → IsTagName name
tag_name [] is = absurd (true≢false (sym is))
tag_name (b ∷ name) is = and_parts (is_letter b) (list_all is_name_byte name) is

pub markup_name : (name : List ℕ) → may_keep name ≡ true → IsMarkupName name
markup_name name is =
    let h = and_parts (list_all is_simple_byte name) _ (good_name name is) in
    let k = and_parts (is_tag_name name) _ h.1 in
    let r = and_parts (not (is_among name raw_names)) _ k.1 in
    let t = and_parts (not (is_among name text_names)) _ r.1 in
    let q = and_parts (not (begins_other_tag name)) (merges (kind_of name)) t.1 in
    (tag_name name k.0, (plain_name name (all_plain name h.0)).folds, not-true (is_among name raw_names) r.0, not-true (is_among name text_names) t.0, q.1)

-- ---- names that begin no other tag

-- no byte of the word is that one
begins_before : (name word : List ℕ) (b : ℕ) (rest : List ℕ) → lacks b word ≡ true → begins (name ++ (b ∷ rest)) word ≡ begins name word
begins_before [] [] b rest none = refl
begins_before (x ∷ name) [] b rest none = refl
begins_before [] (w ∷ word) b rest none = rw (differs w b (not-true (w == b) (and_parts (not (w == b)) (lacks b word) none).0)) refl
  where
    differs : (w b : ℕ) → (w == b) ≡ false → nat_eq w b ≡ false
    differs w b f = f
begins_before (x ∷ name) (w ∷ word) b rest none = ap (λ t. nat_eq w x && t) (begins_before name word b rest (and_parts (not (w == b)) (lacks b word) none).1)

abbrev others : (a b c d e f : Bool) → Bool
others a b c d e f = (a || b) || c || d || e || f

-- the byte is in none of the six words
record IsApart (b : ℕ) : Type 0 where
  svg : lacks b (codes "svg") ≡ true
  math : lacks b (codes "math") ≡ true
  select : lacks b (codes "select") ≡ true
  noscript : lacks b (codes "noscript") ≡ true
  template : lacks b (codes "template") ≡ true
  iframe : lacks b (codes "iframe") ≡ true

other_before : (name : List ℕ) (b : ℕ) (rest : List ℕ) → IsApart b → begins_other_tag (name ++ (b ∷ rest)) ≡ begins_other_tag name
other_before name b rest is =
    let text = name ++ (b ∷ rest) in
    let B = begins text in
    let svg = codes "svg" in let math = codes "math" in let select = codes "select" in
    let noscript = codes "noscript" in let template = codes "template" in let iframe = codes "iframe" in
    ap (λ x. others x (B math) (B select) (B noscript) (B template) (B iframe)) (begins_before name svg b rest is.svg)
    ∙ ap (λ x. others (begins name svg) x (B select) (B noscript) (B template) (B iframe)) (begins_before name math b rest is.math)
    ∙ ap (λ x. others (begins name svg) (begins name math) x (B noscript) (B template) (B iframe)) (begins_before name select b rest is.select)
    ∙ ap (λ x. others (begins name svg) (begins name math) (begins name select) x (B template) (B iframe)) (begins_before name noscript b rest is.noscript)
    ∙ ap (λ x. others (begins name svg) (begins name math) (begins name select) (begins name noscript) x (B iframe)) (begins_before name template b rest is.template)
    ∙ ap (λ x. others (begins name svg) (begins name math) (begins name select) (begins name noscript) (begins name template) x) (begins_before name iframe b rest is.iframe)

pub quiet_name : (name : List ℕ) → may_keep name ≡ true → IsQuietName name
quiet_name name is =
    let h = and_parts (list_all is_simple_byte name) _ (good_name name is) in
    let k = and_parts (is_tag_name name) _ h.1 in
    let r = and_parts (not (is_among name raw_names)) _ k.1 in
    let t = and_parts (not (is_among name text_names)) _ r.1 in
    let none = not-true (begins_other_tag name) (and_parts (not (begins_other_tag name)) (merges (kind_of name)) t.1).0 in
    record {
      quiet = simple_front name h.0;
      tag = λ rest. other_before name 62 rest (record { svg = refl; math = refl; select = refl; noscript = refl; template = refl; iframe = refl }) ∙ none;
      spaced_tag = λ rest. other_before name 32 rest (record { svg = refl; math = refl; select = refl; noscript = refl; template = refl; iframe = refl }) ∙ none;
    }
