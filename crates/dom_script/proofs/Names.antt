-- Names at the front of a text.
use Rattle.std.proofs.Common.{◌≡◌, ◌≤◌, ℕ, Bool, false, true, List, [], ◌∷◌, ◌++◌, inl, inr, refl, sym, ◌∙◌, ap, arith, length, subst, codes, length-append}
use Rattle.std.specs.Prelude.{◌==◌, ◌&&◌, if◌then◌else◌, cond}
use Rattle.std.specs.List.{list_all}
use Rattle.std.proofs.lemmas.Bool.{eqb-true, false≢true}
use Rattle.dom_markup.specs.Bytes.{is_name_byte}
use Rattle.dom_markup.specs.Markup.{EndsAtMark}
use Rattle.dom_script.specs.EditLine.{HasNoPair, HasPair}
use Rattle.dom_script.specs.Words.{HasArgument, is_name}
use Rattle.dom_script.proofs.Lines.{argument-once}

-- the word of a line: what stands before its first space
abbrev pub word_in : List ℕ → List ℕ
word_in [] = []
word_in (b ∷ line) = if b == 32 then [] else b ∷ word_in line

-- a byte of a name is no space
no-space : (b : ℕ) → is_name_byte b ≡ true → (b == 32) ≡ false
no-space b is = at (b == 32) refl
  where
    at : (t : Bool) → (b == 32) ≡ t → (b == 32) ≡ false
    at true e = absurd (false≢true (subst (λ c. is_name_byte c ≡ true) (eqb-true b 32 e) is))
    at false e = e

-- all bytes are a name's
name-bytes : (name : List ℕ) → is_name name ≡ true → list_all is_name_byte name ≡ true
name-bytes [] is = refl
name-bytes (b ∷ bs) is = is

and-both : (s t : Bool) → (s && t) ≡ true → (s ≡ true) × (t ≡ true)
and-both true t e = (refl, e)
and-both false t e = absurd (false≢true e)

name-spaced : (name rest : List ℕ) → list_all is_name_byte name ≡ true → word_in (name ++ 32 ∷ rest) ≡ name
name-spaced [] rest is = refl
name-spaced (b ∷ bs) rest is =
    let both = and-both (is_name_byte b) (list_all is_name_byte bs) is in
    ap (λ t. cond t [] (b ∷ word_in (bs ++ 32 ∷ rest))) (no-space b both.0) ∙ ap (λ w. b ∷ w) (name-spaced bs rest both.1)

name-alone : (name : List ℕ) → list_all is_name_byte name ≡ true → word_in name ≡ name
name-alone [] is = refl
name-alone (b ∷ bs) is =
    let both = and-both (is_name_byte b) (list_all is_name_byte bs) is in
    ap (λ t. cond t [] (b ∷ word_in bs)) (no-space b both.0) ∙ ap (λ w. b ∷ w) (name-alone bs both.1)

pair-word : (text name value : List ℕ) → HasPair text name value → word_in text ≡ name
pair-word text name value (inl is, named) = ap word_in is ∙ name-spaced name value (name-bytes name named)
pair-word text name value (inr p, named) = ap word_in p.0 ∙ name-alone name (name-bytes name named)

-- a text is one pair at most
pub pair-once : (text name other value last : List ℕ) → HasPair text name value → HasPair text other last → (name ≡ other) × (value ≡ last)
pair-once text name other value last p q =
    let same = sym (pair-word text name value p) ∙ pair-word text other last q in
    (same, argument-once text other value last (subst (λ n. HasArgument text n value) same p.0) q.0)

word-short : (front rest : List ℕ) → length (word_in (front ++ 32 ∷ rest)) ≤ length front
word-short [] rest = omega arith
word-short (b ∷ front) rest =
    elim (b == 32) as (λ t. length (cond t [] (b ∷ word_in (front ++ 32 ∷ rest))) ≤ length (b ∷ front)) [
      | true ↦ omega arith
      | false ↦ omega (arith, word-short front rest)
    ]

same-front : (a b r s : List ℕ) → a ++ r ≡ b ++ s → length a ≡ length b → a ≡ b
same-front [] [] r s e long = refl
same-front [] (y ∷ ys) r s e long = absurd (omega (arith, long))
same-front (x ∷ xs) [] r s e long = absurd (omega (arith, long))
same-front (x ∷ xs) (y ∷ ys) r s e long =
    let heads : x ≡ y = cc in
    let tails : xs ++ r ≡ ys ++ s = cc in
    ap (λ z. z ∷ xs) heads ∙ ap (λ zs. y ∷ zs) (same-front xs ys r s tails (omega (arith, long)))

-- what stands before the first space is no name
pub no-pair-spaced : (text front rest : List ℕ) → EndsAtMark (codes " ") text front rest → is_name front ≡ false → HasNoPair text
no-pair-spaced text front rest ends none name value (inl is, named) =
    let short = ap (λ t. length (word_in t)) ends.is in
    let word = ap length (pair-word text name value (inl is, named)) in
    let same = same-front front name (32 ∷ rest) (32 ∷ value) (sym ends.is ∙ is) (omega (arith, ends.first name value is, word-short front rest, short, word)) in
    false≢true (sym none ∙ ap is_name same ∙ named)
no-pair-spaced text front rest ends none name value (inr p, named) =
    let short = ap (λ t. length (word_in t)) ends.is in
    let word = ap length (pair-word text name value (inr p, named)) in
    let long = ap length (sym p.0 ∙ ends.is) ∙ length-append front (32 ∷ rest) in
    let no : ⊥ = omega (arith, word-short front rest, short, word, long) in
    no

pub no-pair-alone : (text : List ℕ) → ((front rest : List ℕ) → text ≡ front ++ (codes " " ++ rest) → ⊥) → is_name text ≡ false → HasNoPair text
no-pair-alone text lacks none name value (inl is, named) = lacks name value is
no-pair-alone text lacks none name value (inr p, named) = false≢true (sym none ∙ ap is_name p.0 ∙ named)
