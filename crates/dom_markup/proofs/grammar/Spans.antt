-- A front whose bytes all pass a test, before a byte that fails it, is determined by the text.
use Rattle.std.proofs.Common.{◌≡◌, ℕ, zero, suc, ◌+◌, ◌<◌, ◌≤◌, get_or, add-one, List, [], ◌∷◌, ◌++◌, Bool, true, false, cond, refl, sym, ◌∙◌, subst, arith, take, drop, length}
use Rattle.std.specs.Prelude.{nat_eq, Option, None, Some, MatchOption, IfNone}
use Rattle.std.specs.List.{list_all, prefix_len}
use Rattle.std.proofs.lemmas.Bool.{true≢false, and_parts, eqb-true}
use Rattle.std.proofs.lemmas.Bool.Decides.{nat_tests}
use Rattle.std.proofs.lemmas.List.{take-append-drop}
use Rattle.std.proofs.lemmas.List.Sums.{prefix_len-le-length, prefix_len_passes, prefix_len_stops}
use Rattle.std.proofs.lemmas.Str.{IsCharBoundary-after_ascii, IsCharBoundary-start}
use Rattle.std.specs.Str.{IsUtf8, IsCharBoundary}
use Rattle.dom_markup.specs.declared.document.scan.ByteClass.{ByteClass}
use Rattle.dom_markup.specs.declared.document.scan.ByteClass.TheVariants.{Whitespace, Name, Bare}
use Rattle.dom_markup.specs.Markup.{Fails, is_bare_byte}
use Rattle.dom_markup.specs.ByteClasses.{Splits, passes}
use Rattle.dom_markup.specs.Bytes.{is_whitespace, is_letter, is_name_byte}

pub span_same : (p : ℕ → Bool) (xs ys us vs : List ℕ) → list_all p xs ≡ true → Fails p ys → list_all p us ≡ true → Fails p vs → xs ++ ys ≡ us ++ vs → (xs ≡ us) × (ys ≡ vs)
span_same p [] ys [] vs a f b g e = (refl, e)
span_same p [] ys (u ∷ us) vs a f b g e =
    let fails : p u ≡ false = subst (Fails p) e f in
    absurd (true≢false (sym (and_parts (p u) (list_all p us) b).0 ∙ fails))
span_same p (x ∷ xs) ys [] vs a f b g e =
    let fails : p x ≡ false = subst (Fails p) (sym e) g in
    absurd (true≢false (sym (and_parts (p x) (list_all p xs) a).0 ∙ fails))
span_same p (x ∷ xs) ys (u ∷ us) vs a f b g e =
    let first : x ≡ u = cc in
    let rest : xs ++ ys ≡ us ++ vs = cc in
    let more = span_same p xs ys us vs (and_parts (p x) (list_all p xs) a).1 f (and_parts (p u) (list_all p us) b).1 g rest in
    (cc (first, more.0), more.1)

-- what `prefix_len` gives at such a front
pub prefix_len-front : (p : ℕ → Bool) (xs ys : List ℕ) → list_all p xs ≡ true → Fails p ys → prefix_len p (xs ++ ys) ≡ length xs
prefix_len-front p [] [] a f = refl
prefix_len-front p [] (y ∷ ys) a f = rw f refl
prefix_len-front p (x ∷ xs) ys a f =
    let parts = and_parts (p x) (list_all p xs) a in
    rw (parts.0, prefix_len-front p xs ys parts.1 f) (omega arith)

pub front-passes : (p : ℕ → Bool) (xs : List ℕ) → list_all p (take (prefix_len p xs) xs) ≡ true
front-passes p [] = refl
front-passes p (x ∷ xs) = go (front-passes p xs) (p x) refl
  where
    go : list_all p (take (prefix_len p xs) xs) ≡ true → (b : Bool) → p x ≡ b → list_all p (take (cond b (1 + prefix_len p xs) 0) (x ∷ xs)) ≡ true
    go more true e =
        let one : 1 + prefix_len p xs ≡ suc (prefix_len p xs) = omega arith in
        rw (one, e) more
    go more false e = refl

pub behind-fails : (p : ℕ → Bool) (xs : List ℕ) → Fails p (drop (prefix_len p xs) xs)
behind-fails p [] = tt
behind-fails p (x ∷ xs) = go (behind-fails p xs) (p x) refl
  where
    go : Fails p (drop (prefix_len p xs) xs) → (b : Bool) → p x ≡ b → Fails p (drop (cond b (1 + prefix_len p xs) 0) (x ∷ xs))
    go more true e =
        let one : 1 + prefix_len p xs ≡ suc (prefix_len p xs) = omega arith in
        rw one more
    go more false e = e

pub letter-name : (b : ℕ) → is_letter b ≡ true → is_name_byte b ≡ true
letter-name b h = grind (arith, nat_tests)

pub space-name : (b : ℕ) → is_whitespace b ≡ true → is_name_byte b ≡ false
space-name b h = rw h refl

pub name-space : (b : ℕ) → is_name_byte b ≡ true → is_whitespace b ≡ false
name-space b h = go (is_whitespace b) refl
  where
    go : (c : Bool) → is_whitespace b ≡ c → c ≡ false
    go true e = absurd (true≢false (sym h ∙ space-name b e))
    go false e = refl

pub splits_front : (p : ℕ → Bool) (xs : List ℕ) → Splits p xs (take (prefix_len p xs) xs) (drop (prefix_len p xs) xs)
splits_front p xs = record { is = sym (take-append-drop (prefix_len p xs) xs); passes = front-passes p xs; fails = behind-fails p xs }

space_small : (b : ℕ) → is_whitespace b ≡ true → b < 128
space_small b h = grind (arith, nat_tests)

name_small : (b : ℕ) → is_name_byte b ≡ false → b < 128
name_small b h = grind (arith, nat_tests)

bare_small : (b : ℕ) → is_bare_byte b ≡ false → b < 128
bare_small b h = grind (arith, nat_tests)

-- where the byte behind the front is ASCII, a text may be cut before it
stops_boundary : (p : ℕ → Bool) (xs : List ℕ) → ((b : ℕ) → p b ≡ false → b < 128) → IsCharBoundary xs (prefix_len p xs)
stops_boundary p xs small = (prefix_len-le-length p xs, λ l h. absurd (go l h))
  where
    go : prefix_len p xs < length xs → 128 ≤ get_or xs (prefix_len p xs) 0 → ⊥
    go l h =
        let below = small _ (prefix_len_stops p xs 0 l) in
        omega arith

-- a text may be cut behind such a front
pub front_boundary : (byte_class : ByteClass) (xs : List ℕ) → IsUtf8 xs → IsCharBoundary xs (prefix_len (passes byte_class) xs)
front_boundary Whitespace xs u = go (prefix_len is_whitespace xs) (prefix_len-le-length is_whitespace xs) (λ k l. prefix_len_passes is_whitespace xs k 0 l)
  where
    go : (n : ℕ) → n ≤ length xs → ((k : ℕ) → k < n → is_whitespace (get_or xs k 0) ≡ true) → IsCharBoundary xs n
    go zero l h = IsCharBoundary-start xs u
    go (suc n) l h = rw (← add-one n) (IsCharBoundary-after_ascii xs n u (omega arith) (space_small _ (h n (omega arith))))
front_boundary Name xs u = stops_boundary is_name_byte xs name_small
front_boundary Bare xs u = stops_boundary is_bare_byte xs bare_small

pub IfNone-from_cases : {X : Type 0} (r : Option X) (P : Type 0) (Q : X → Type 0) → MatchOption r P Q → IfNone r P
IfNone-from_cases None P Q h = h
IfNone-from_cases (Some x) P Q h = tt

pub nil_from_length : (xs : List ℕ) → nat_eq (length xs) 0 ≡ true → xs ≡ []
nil_from_length [] e = refl
nil_from_length (x ∷ xs) e =
    let none : suc (length xs) ≡ 0 = eqb-true (suc (length xs)) 0 e in
    absurd (omega arith)

pub length_from_nil : (xs : List ℕ) → xs ≡ [] → nat_eq (length xs) 0 ≡ false → ⊥
length_from_nil [] e h = true≢false h
length_from_nil (x ∷ xs) e h = cc
