-- The steps of formatting.
use Rattle.std.proofs.Common.{◌≡◌, ℕ, zero, suc, ◌-◌, ◌<◌, ◌≤◌, Bool, true, false, List, [], ◌∷◌, ◌++◌, length, take, drop, get_or, refl, sym, ◌∙◌, ap, arith, inl, inr}
use Rattle.std.specs.Prelude.{◌==◌, ◌&&◌, codes}
use Rattle.std.specs.Str.{bytes_eq}
use Rattle.std.proofs.lemmas.Bool.{cases_Bool, eqb-true, ne_eqb}
use Rattle.dom_nodes.specs.Ascii.{space}
use Rattle.dom_md.specs.Formatted.{drop_spaces, ends_with}

-- ---- spaces at the end

pub drop_spaces-space : (text : List ℕ) → drop_spaces (text ++ space ∷ []) ≡ drop_spaces text
drop_spaces-space [] = refl
drop_spaces-space (b ∷ text) = rw (drop_spaces-space text) refl

ends-more : (b d : ℕ) (text : List ℕ) → ends_with (codes " ") (b ∷ d ∷ text) ≡ ends_with (codes " ") (d ∷ text)
ends-more b d text =
    let from : length (b ∷ d ∷ text) - 1 ≡ suc (length (d ∷ text) - 1) = omega arith in
    ap (λ n. bytes_eq (drop n (b ∷ d ∷ text)) (space ∷ [])) from

some_left : (b : ℕ) (text : List ℕ) → (length (b ∷ text) == 0) ≡ false
some_left b text = ne_eqb (length (b ∷ text)) 0 (λ e. omega arith)

and-false : (a b : Bool) → b ≡ false → (a && b) ≡ false
and-false true b h = h
and-false false b h = refl

last-one : (b : ℕ) → bytes_eq (b ∷ []) (space ∷ []) ≡ false → (b == space) ≡ false
last-one b h = elim (cases_Bool (b == space)) [
  | inl t ↦ (let no_end : bytes_eq (b ∷ []) (space ∷ []) ≡ true = rw t refl in absurd (cc))
  | inr f ↦ f
]

pub drop_spaces-none : (text : List ℕ) → ends_with (codes " ") text ≡ false → drop_spaces text ≡ text
drop_spaces-none [] h = refl
drop_spaces-none (b ∷ []) h = rw (last-one b h) refl
drop_spaces-none (b ∷ d ∷ text) h =
    let rest = drop_spaces-none (d ∷ text) (sym (ends-more b d text) ∙ h) in
    let some : (b == space && length (drop_spaces (d ∷ text)) == 0) ≡ false = and-false (b == space) _ (ap (λ t. length t == 0) rest ∙ some_left d text) in
    rw some (ap (λ t. b ∷ t) rest)

-- a text that ends in a space
pub record EndsInSpace (text : List ℕ) : Type 0 where
  pub some : 0 < length text
  pub byte : get_or text (length text - 1) 0 ≡ space
  pub is : text ≡ take (length text - 1) text ++ space ∷ []

one_space : (b : ℕ) → bytes_eq (b ∷ []) (space ∷ []) ≡ true → b ≡ space
one_space b h = elim (cases_Bool (b == space)) [
  | inl t ↦ eqb-true b space t
  | inr f ↦ (let no_end : bytes_eq (b ∷ []) (space ∷ []) ≡ false = rw f refl in absurd (cc))
]

pub ends_in_space : (text : List ℕ) → ends_with (codes " ") text ≡ true → EndsInSpace text
ends_in_space [] h = absurd (cc)
ends_in_space (b ∷ []) h = let same = one_space b h in record { some = omega arith; byte = same; is = ap (λ n. n ∷ []) same }
ends_in_space (b ∷ d ∷ text) h =
    let rest = ends_in_space (d ∷ text) (sym (ends-more b d text) ∙ h) in
    let from : length (b ∷ d ∷ text) - 1 ≡ suc (length (d ∷ text) - 1) = omega arith in
    record {
      some = omega arith;
      byte = ap (λ n. get_or (b ∷ d ∷ text) n 0) from ∙ rest.byte;
      is = ap (λ t. b ∷ t) rest.is ∙ ap (λ n. take n (b ∷ d ∷ text) ++ space ∷ []) (sym from);
    }

-- after the space was taken off
pub taken_off : (old new : List ℕ) (n : ℕ) → ends_with (codes " ") old ≡ true → n ≡ length old → new ≡ take (n - 1) old → drop_spaces new ≡ drop_spaces old
taken_off old new n space_last size is =
    let ends = ends_in_space old space_last in
    ap drop_spaces (is ∙ ap (λ k. take (k - 1) old) size) ∙ (sym (drop_spaces-space (take (length old - 1) old)) ∙ ap drop_spaces (sym ends.is))

pub taken_shorter : (old new : List ℕ) (n : ℕ) → ends_with (codes " ") old ≡ true → n ≡ length old → new ≡ take (n - 1) old → length new < length old
taken_shorter old new n space_last size is =
    let some = (ends_in_space old space_last).some in
    rw is (omega (arith, some, size, length-take-le (n - 1) old))
  where
    length-take-le : (n : ℕ) (t : List ℕ) → length (take n t) ≤ n
    length-take-le zero t = omega arith
    length-take-le (suc n) [] = omega arith
    length-take-le (suc n) (x ∷ t) = let rest = length-take-le n t in omega (arith, rest)
