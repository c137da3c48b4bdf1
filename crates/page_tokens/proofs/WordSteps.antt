-- A text against a word, letter by letter; f is what two letters are compared by.
use Rattle.std.specs.Prelude.{◌≡◌, ℕ, zero, suc, ◌<◌, Bool, true, false, ◌==◌, ◌&&◌, List, [], ◌∷◌, ◌++◌, map, length, take, refl}
use Rattle.std.proofs.Common.{arith}
use Rattle.std.proofs.lemmas.Bool.{eq-eqb, eqb-true}
use mathlib.Core.Path.{◌∙◌, ap}
use lib.Pointwise.{pointwise}
use Rattle.page_tokens.specs.Declarations.{letter_is}

and_false : (a b : Bool) → b ≡ false → (a && b) ≡ false
and_false true b h = h
and_false false b h = refl

abbrev pub Same : (ℕ → ℕ) → ℕ → ℕ → Bool
Same f x y = f x == f y

-- what was read are the first letters, and the next one is another
pub fails : (f : ℕ → ℕ) (word ahead : List ℕ) (n c : ℕ) (rest : List ℕ) → map f ahead ≡ take n (map f word) → n < length word → letter_is (map f word) n (f c) ≡ false →
    pointwise (Same f) word (take (length word) (ahead ++ c ∷ rest)) ≡ false
fails f [] ahead n c rest is within other = absurd (omega (arith, within))
fails f (w ∷ word) [] zero c rest is within other = ap (λ b. b && pointwise (Same f) word (take (length word) rest)) other
fails f (w ∷ word) [] (suc n) c rest is within other = absurd (cc)
fails f (w ∷ word) (a ∷ ahead) zero c rest is within other = absurd (cc)
fails f (w ∷ word) (a ∷ ahead) (suc n) c rest is within other =
    and_false (f w == f a) _ (fails f word ahead n c rest (cc) (omega (arith, within)) other)

-- the same where the text ends
pub begun_fails : (f : ℕ → ℕ) (word ahead : List ℕ) (n : ℕ) → map f ahead ≡ take n (map f word) → n < length word → pointwise (Same f) word (take (length word) ahead) ≡ false
begun_fails f [] ahead n is within = absurd (omega (arith, within))
begun_fails f (w ∷ word) [] n is within = refl
begun_fails f (w ∷ word) (a ∷ ahead) zero is within = absurd (cc)
begun_fails f (w ∷ word) (a ∷ ahead) (suc n) is within = and_false (f w == f a) _ (begun_fails f word ahead n (cc) (omega (arith, within)))

-- the word begins the text
pub begins : (f : ℕ → ℕ) (word front rest : List ℕ) → map f front ≡ map f word → pointwise (Same f) word (take (length word) (front ++ rest)) ≡ true
begins f [] front rest is = refl
begins f (w ∷ word) [] rest is = absurd (cc)
begins f (w ∷ word) (a ∷ front) rest is =
    let head : f w ≡ f a = cc in
    let tail : map f front ≡ map f word = cc in
    ap (λ b. b && pointwise (Same f) word (take (length word) (front ++ rest))) (eq-eqb (f w) (f a) head) ∙ begins f word front rest tail

pub taken_word : (f : ℕ → ℕ) (word front rest : List ℕ) → map f front ≡ map f word → take (length word) (front ++ rest) ≡ front
taken_word f [] [] rest is = refl
taken_word f [] (a ∷ front) rest is = absurd (cc)
taken_word f (w ∷ word) [] rest is = absurd (cc)
taken_word f (w ∷ word) (a ∷ front) rest is = ap (λ t. a ∷ t) (taken_word f word front rest (cc))

-- one letter more
pub extends : (word : List ℕ) (n x : ℕ) → letter_is word n x ≡ true → take (suc n) word ≡ take n word ++ x ∷ []
extends [] n x h = absurd (cc)
extends (y ∷ word) zero x h = ap (λ z. z ∷ []) (eqb-true y x h)
extends (y ∷ word) (suc n) x h = ap (λ t. y ∷ t) (extends word n x h)

pub map_snoc : (f : ℕ → ℕ) (xs : List ℕ) (c : ℕ) → map f (xs ++ c ∷ []) ≡ map f xs ++ f c ∷ []
map_snoc f [] c = refl
map_snoc f (x ∷ xs) c = ap (λ t. f x ∷ t) (map_snoc f xs c)
