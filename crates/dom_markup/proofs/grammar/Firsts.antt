-- The first place where a byte stands in a text.
use Rattle.std.proofs.Common.{◌≡◌, ℕ, ◌+◌, ◌-◌, ◌<◌, suc, get_or, List, [], ◌∷◌, ◌++◌, refl, sym, ap, ◌∙◌, arith, take, drop, drop-cons, add-one, length, length-append, true}
use Rattle.std.specs.List.{slice_range}
use Rattle.std.proofs.lemmas.Bool.{eq-eqb, eqb-true}
use Rattle.std.proofs.lemmas.List.{get_or-take, length-take, take-append-drop}
use Rattle.memchr.specs.Find.{Nowhere, NoneBefore, Passes, is_byte}
use Rattle.dom_markup.specs.Escaping.{lacks}
use Rattle.dom_markup.proofs.html.InertLemmas.{lacks_from}

pub get_behind : (front rest : List ℕ) (x : ℕ) → get_or (front ++ x ∷ rest) (length front) 0 ≡ x
get_behind [] rest x = refl
get_behind (y ∷ front) rest x = get_behind front rest x

pub stands_nowhere : (letter : ℕ) (text : List ℕ) → Nowhere (Passes (is_byte letter) text) 0 (length text) → (front rest : List ℕ) → text ≡ front ++ letter ∷ rest → ⊥
stands_nowhere letter text none front rest e =
    let here : get_or text (length front) 0 ≡ letter = ap (λ t. get_or t (length front) 0) e ∙ get_behind front rest letter in
    none (length front) (omega arith) (omega (arith, ap length e, length-append front (letter ∷ rest))) (eq-eqb _ letter here)

-- the text is what stands before it, the byte, and what follows
pub first_whole : (letter : ℕ) (text before after : List ℕ) (at : ℕ) → NoneBefore (Passes (is_byte letter) text) 0 (length text) at → Passes (is_byte letter) text at → before ≡ slice_range text 0 at → after ≡ drop (at + 1) text → text ≡ before ++ letter ∷ after
first_whole letter text before after at first passes begin end =
    let all : at - 0 ≡ at = omega arith in
    let front : before ≡ take at text = begin ∙ ap (λ n. take n text) all in
    let here : drop at text ≡ letter ∷ after = drop-cons text at 0 first.high ∙ (ap (λ b. b ∷ drop (suc at) text) (eqb-true (get_or text at 0) letter passes) ∙ ap (λ t. letter ∷ t) (ap (λ n. drop n text) (sym (add-one at)) ∙ sym end)) in
    sym (take-append-drop at text) ∙ (ap (λ t. take at text ++ t) here ∙ ap (λ t. t ++ (letter ∷ after)) (sym front))

pub first_lacks : (letter : ℕ) (text before : List ℕ) (at : ℕ) → NoneBefore (Passes (is_byte letter) text) 0 (length text) at → before ≡ slice_range text 0 at → lacks letter before ≡ true
first_lacks letter text before at first begin =
    let all : at - 0 ≡ at = omega arith in
    let front : before ≡ take at text = begin ∙ ap (λ n. take n text) all in
    ap (lacks letter) front ∙ lacks_from letter (take at text) (λ k below same.
    let near : k < at = omega (arith, length-take at text) in
    first.before k (omega arith) near (eq-eqb (get_or text k 0) letter (sym (get_or-take at text k 0 near) ∙ same)))
