-- Texts that are compared byte by byte.
use Rattle.std.proofs.Common.{◌≡◌, ℕ, suc, ◌+◌, ◌<◌, List, [], ◌∷◌, length, drop, Bool, true, false, ◌&&◌, ◌||◌, get_or, refl, sym, ap, ◌∙◌, arith}
use Rattle.std.proofs.Math.Seq.{drop-cons}
use Rattle.dom_nodes.specs.declared.case_sensitivity.CaseSensitivity.{CaseSensitivity}
use Rattle.dom_selectors.specs.Comparisons.{same_byte, same_text, begins_with, has_within, has_word}

and_none : (b : Bool) → (b && false) ≡ false
and_none true = refl
and_none false = refl

pub same_text-length : (case : CaseSensitivity) (text other : List ℕ) → (length text ≡ length other → ⊥) → same_text case text other ≡ false
same_text-length case [] [] h = absurd (h refl)
same_text-length case [] (b ∷ bs) h = refl
same_text-length case (a ∷ more) [] h = refl
same_text-length case (a ∷ more) (b ∷ bs) h =
    ap (λ t. same_byte case a b && t) (same_text-length case more bs (λ e. h (ap suc e))) ∙ and_none (same_byte case a b)

pub begins_with-length : (case : CaseSensitivity) (text front : List ℕ) → length text < length front → begins_with case text front ≡ false
begins_with-length case text [] h = absurd (omega arith)
begins_with-length case [] (b ∷ bs) h = refl
begins_with-length case (a ∷ more) (b ∷ bs) h =
    ap (λ t. same_byte case a b && t) (begins_with-length case more bs (omega arith)) ∙ and_none (same_byte case a b)

-- of two texts as long as each other one begins with the other where they are the same
pub begins_with-whole : (case : CaseSensitivity) (text other : List ℕ) → length text ≡ length other → begins_with case text other ≡ same_text case text other
begins_with-whole case [] [] h = refl
begins_with-whole case [] (b ∷ bs) h = refl
begins_with-whole case (a ∷ more) [] h = absurd (omega arith)
begins_with-whole case (a ∷ more) (b ∷ bs) h = ap (λ t. same_byte case a b && t) (begins_with-whole case more bs (omega arith))

-- where it doesn't begin here, it is within what follows or nowhere
pub has_within-later : (case : CaseSensitivity) (n : ℕ) (text inner : List ℕ) → n < length text → begins_with case (drop n text) inner ≡ false →
    has_within case (drop (n + 1) text) inner ≡ has_within case (drop n text) inner
has_within-later case n text inner low h =
    let next : n + 1 ≡ suc n = omega arith in
    let cut = drop-cons text n 0 low in
    let here : begins_with case (get_or text n 0 ∷ drop (suc n) text) inner ≡ false = ap (λ t. begins_with case t inner) (sym cut) ∙ h in
    ap (λ k. has_within case (drop k text) inner) next
    ∙ sym (ap (λ b. b || has_within case (drop (suc n) text) inner) here)
    ∙ ap (λ t. has_within case t inner) (sym cut)

pub has_within-here : (case : CaseSensitivity) (text inner : List ℕ) → begins_with case text inner ≡ true → has_within case text inner ≡ true
has_within-here case [] inner h = h
has_within-here case (a ∷ more) inner h = ap (λ b. b || has_within case more inner) h

pub word-here : (case : CaseSensitivity) (text word : List ℕ) (words : List (List ℕ)) → same_text case word text ≡ true → has_word case text (word ∷ words) ≡ true
word-here case text word words e = ap (λ b. b || has_word case text words) e

pub word-later : (case : CaseSensitivity) (text word : List ℕ) (words : List (List ℕ)) → same_text case word text ≡ false → has_word case text (word ∷ words) ≡ has_word case text words
word-later case text word words e = ap (λ b. b || has_word case text words) e
