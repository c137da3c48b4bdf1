-- A framed page opens with a doctype `html` without identifiers.
use Rattle.std.specs.Prelude.{◌≡◌, ◌≢◌, ◌<◌, ◌≤◌, ◌+◌, ◌==◌, ℕ, Bool, true, false, List, [], ◌∷◌, ◌++◌, codes, drop, map, take, refl}
use Rattle.std.specs.Char.{to_ascii_lowercase}
use Rattle.std.specs.List.{list_all}
use Rattle.std.specs.Cmp.Derive.{both_true}
use Rattle.std.proofs.Common.{arith, inl, inr}
use Rattle.std.proofs.lemmas.Bool.{and_parts, cases_lt, eqb-true, true≢false}
use Rattle.std.proofs.lemmas.List.{append_assoc, take-append-drop}
use Rattle.std.proofs.lemmas.Str.Ascii.{lowercase_is}
use mathlib.Core.Path.{◌∙◌, sym, ap}
use Rattle.dom_markup.specs.Bytes.{folded, is_letter, is_name_byte}
use Rattle.dom_markup.specs.Markup.{BeginsDoctype}
use Rattle.page_trees.specs.Framed.{IsFramed}

-- ---- letters

lower_letter : (c : ℕ) → is_letter (to_ascii_lowercase c) ≡ true → is_letter c ≡ true
lower_letter c h = elim (cases_lt c 65) [
  | inl below ↦ ap is_letter (sym ((lowercase_is c).1 below)) ∙ h
  | inr above ↦ elim (cases_lt 90 c) [ inl over ↦ ap is_letter (sym ((lowercase_is c).2 over)) ∙ h | inr upper ↦ upper_letter c above upper ]
]
  where
    upper_letter : (d : ℕ) → 65 ≤ d → d ≤ 90 → is_letter d ≡ true
    upper_letter d a b = grind arith

pub all_letters : (cs : List ℕ) → list_all is_letter (folded cs) ≡ true → list_all is_letter cs ≡ true
all_letters [] h = refl
all_letters (c ∷ cs) h =
    let parts : (is_letter (to_ascii_lowercase c) ≡ true) × (list_all is_letter (folded cs) ≡ true) = and_parts (is_letter (to_ascii_lowercase c)) (list_all is_letter (folded cs)) h in
    both_true (lower_letter c parts.0) (all_letters cs parts.1)

pub letter_name : (b : ℕ) → is_letter b ≡ true → is_name_byte b ≡ true
letter_name b h = rw (other 9 refl, other 10 refl, other 12 refl, other 13 refl, other 32 refl, other 47 refl, other 62 refl, other 60 refl, other 61 refl, other 34 refl, other 39 refl, other 0 refl) refl
  where
    other : (k : ℕ) → is_letter k ≡ false → (b == k) ≡ false
    other k fails = by_test (b == k) refl
      where
        by_test : (x : Bool) → (b == k) ≡ x → x ≡ false
        by_test true e = absurd (true≢false (sym h ∙ ap is_letter (eqb-true b k e) ∙ fails))
        by_test false e = refl

pub all_by_letters : (test : ℕ → Bool) → ((b : ℕ) → is_letter b ≡ true → test b ≡ true) → (xs : List ℕ) → list_all is_letter xs ≡ true → list_all test xs ≡ true
all_by_letters test passes [] h = refl
all_by_letters test passes (x ∷ xs) h =
    let parts : (is_letter x ≡ true) × (list_all is_letter xs ≡ true) = and_parts (is_letter x) (list_all is_letter xs) h in both_true (passes x parts.0) (all_by_letters test passes xs parts.1)

-- ---- the first bytes

-- one byte, or several, of a text in lower case
peel : (xs : List ℕ) (k : ℕ) (ks : List ℕ) → map to_ascii_lowercase xs ≡ k ∷ ks → (b : ℕ) × (bs : List ℕ) × (xs ≡ b ∷ bs) × (to_ascii_lowercase b ≡ k) × (map to_ascii_lowercase bs ≡ ks)
peel [] k ks h = cc
peel (b ∷ bs) k ks h = let first : to_ascii_lowercase b ≡ k = cc in let later : map to_ascii_lowercase bs ≡ ks = cc in (b, bs, refl, first, later)

split : (xs us vs : List ℕ) → map to_ascii_lowercase xs ≡ us ++ vs → (front back : List ℕ) × (xs ≡ front ++ back) × (map to_ascii_lowercase front ≡ us) × (map to_ascii_lowercase back ≡ vs)
split xs [] vs h = ([], xs, refl, refl, h)
split xs (u ∷ us) vs h =
    let p = peel xs u (us ++ vs) h in
    let q = split p.1 us vs p.4 in
    (p.0 ∷ q.0, q.1, p.2 ∙ ap (λ (ys : List ℕ). p.0 ∷ ys) q.2, ap (λ y. y ∷ map to_ascii_lowercase q.0) p.3 ∙ ap (λ (ys : List ℕ). u ∷ ys) q.3, q.4)

-- a byte before the capital letters has no other form
unlowered : (b k : ℕ) → to_ascii_lowercase b ≡ k → k < 65 → b ≡ k
unlowered b k is low = elim (cases_lt b 65) [
  | inl below ↦ sym ((lowercase_is b).1 below) ∙ is
  | inr above ↦
      elim (cases_lt 90 b) [ inl over ↦ sym ((lowercase_is b).2 over) ∙ is | inr upper ↦ (let e : to_ascii_lowercase b ≡ b + 32 = (lowercase_is b).0 (above, upper) in absurd (omega (arith, e, is, low, above))) ]
]

-- the first bytes of a framed page
pub record Opens (page : List ℕ) : Type 0 where
  pub word : List ℕ
  pub name : List ℕ
  pub rest : List ℕ
  pub is : page ≡ 60 ∷ 33 ∷ (word ++ (32 ∷ (name ++ (62 ∷ rest))))
  pub is_word : folded word ≡ codes "doctype"
  pub is_name : folded name ≡ codes "html"

pub opens : (page : List ℕ) → IsFramed page → Opens page
opens page framed =
    let a = peel (take 20 page) 60 (codes "!doctype html><html") framed.front in
    let b = peel a.1 33 (codes "doctype html><html") a.4 in
    let c = split b.1 (codes "doctype") (codes " html><html") b.4 in
    let d = peel c.1 32 (codes "html><html") c.4 in
    let e = split d.1 (codes "html") (codes "><html") d.4 in
    let f = peel e.1 62 (codes "<html") e.4 in
    let more : List ℕ = drop 20 page in
    record {
      word = c.0;
      name = e.0;
      rest = f.1 ++ more;
      is = sym (take-append-drop 20 page)
          ∙ ap (λ (xs : List ℕ). xs ++ more)
          (a.2 ∙ ap (λ x. x ∷ a.1) (unlowered a.0 60 a.3 (omega arith))
          ∙ ap (λ (xs : List ℕ). 60 ∷ xs) (b.2 ∙ ap (λ x. x ∷ b.1) (unlowered b.0 33 b.3 (omega arith))
          ∙ ap (λ (xs : List ℕ). 33 ∷ xs) (c.2 ∙ ap (λ (xs : List ℕ). c.0 ++ xs) (d.2 ∙ ap (λ x. x ∷ d.1) (unlowered d.0 32 d.3 (omega arith))
          ∙ ap (λ (xs : List ℕ). 32 ∷ xs) (e.2 ∙ ap (λ (xs : List ℕ). e.0 ++ xs) (f.2 ∙ ap (λ x. x ∷ f.1) (unlowered f.0 62 f.3 (omega arith))))))))
          ∙ ap (λ (xs : List ℕ). 60 ∷ 33 ∷ xs) (append_assoc c.0 (32 ∷ (e.0 ++ (62 ∷ f.1))) more ∙ ap (λ (xs : List ℕ). c.0 ++ (32 ∷ xs)) (append_assoc e.0 (62 ∷ f.1) more));
      is_word = c.3;
      is_name = e.3;
    }

pub some_name : (xs : List ℕ) (k : ℕ) (ks : List ℕ) → folded xs ≡ k ∷ ks → xs ≢ []
some_name [] k ks h e = cc
some_name (x ∷ xs) k ks h e = cc

-- the doctype with which such a page begins
pub doctype_begins : (page : List ℕ) (o : Opens page) → BeginsDoctype page (codes "html") [] [] o.rest
doctype_begins page o = record {
  word = o.word;
  space = 32 ∷ [];
  written = o.name;
  more = 62 ∷ o.rest;
  close = 62 ∷ o.rest;
  is = o.is;
  is_word = o.is_word;
  is_space = refl;
  some_space = λ e. cc;
  is_name = all_by_letters is_name_byte letter_name o.name (all_letters o.name (ap (list_all is_letter) o.is_name));
  some_name = some_name o.name 104 (codes "tml") o.is_name;
  whole_name = refl;
  folds = sym o.is_name;
  identifiers = inl (refl, refl, refl);
  closes = ([], refl, inl refl);
}
