-- The first end tag of a name in a text.
use Rattle.std.proofs.Common.{◌≡◌, ◌≤◌, ◌<◌, ◌+◌, ◌-◌, ℕ, List, ◌∷◌, ◌++◌, length, length-append, length-drop, length-take-le, take, drop, get_or, sym, ap, ◌∙◌, subst, arith, inl, inr}
use Rattle.std.proofs.lemmas.Bool.{cases_lt, eqb-true, eq-eqb}
use Rattle.std.proofs.lemmas.List.{get_or-drop, take-append-drop}
use Rattle.std.proofs.lemmas.Str.{IsCharBoundary-before_ascii}
use Rattle.std.specs.Str.{IsCharBoundary}
use Rattle.memchr.specs.Find.{Nowhere, NoneBefore, Passes, is_byte}
use Rattle.dom_markup.specs.Markup.{BeginsEnd, EndsAtTag, LacksEnd}
use Rattle.dom_markup.proofs.grammar.Reading.{end_same}
use Rattle.dom_markup.proofs.grammar.Firsts.{get_behind}
use Rattle.dom_markup.proofs.grammar.Marks.{drop_front}

-- an end tag of another name stands there
pub other_end : (text tag n m r s : List ℕ) → text ≡ 60 ∷ 47 ∷ tag → BeginsEnd (60 ∷ 47 ∷ tag) n r → BeginsEnd text m s → n ≡ m
other_end text tag n m r s e a b = (end_same (60 ∷ 47 ∷ tag) n m r s a (subst (λ (t : List ℕ). BeginsEnd t m s) e b)).0

-- so far no end tag of this name has been met
pub record Searched (name text : List ℕ) (at : ℕ) : Type 0 where
  pub within : at ≤ length text
  pub past : (before later beyond : List ℕ) → text ≡ before ++ later → BeginsEnd later name beyond → at ≤ length before

-- an end tag stands where a `<` does
less_there : (name text before later beyond : List ℕ) → text ≡ before ++ later → BeginsEnd later name beyond → (length before < length text) × (get_or text (length before) 0 ≡ 60)
less_there name text before later beyond e b =
    let whole : text ≡ before ++ 60 ∷ (47 ∷ (b.written ++ (b.space ++ (62 ∷ beyond)))) = e ∙ ap (λ (t : List ℕ). before ++ t) b.is in
    (omega (arith, ap length whole, length-append before (60 ∷ (47 ∷ (b.written ++ (b.space ++ (62 ∷ beyond)))))), ap (λ (t : List ℕ). get_or t (length before) 0) whole ∙ get_behind before _ 60)

-- none stands before the next `<`
pub next_less : (name text : List ℕ) (at found : ℕ) → Searched name text at → NoneBefore (Passes (is_byte 60) (drop at text)) 0 (length (drop at text)) found →
    (before later beyond : List ℕ) → text ≡ before ++ later → BeginsEnd later name beyond → at + found ≤ length before
next_less name text at found s none before later beyond e b = elim (cases_lt (length before) (at + found)) [
  | inl less ↦
      (let there = less_there name text before later beyond e b in
      let so_far = s.past before later beyond e b in
      let place : at + (length before - at) ≡ length before = omega arith in
      let byte : get_or (drop at text) (length before - at) 0 ≡ 60 = get_or-drop at text (length before - at) 0 ∙ ap (λ (i : ℕ). get_or text i 0) place ∙ there.1 in
      absurd (none.before (length before - at) (omega arith) (omega arith) (eq-eqb _ 60 byte)))
  | inr past ↦ past
]

pub no_less_left : (name text : List ℕ) (at : ℕ) → Searched name text at → Nowhere (Passes (is_byte 60) (drop at text)) 0 (length (drop at text)) → LacksEnd name text
no_less_left name text at s none before later beyond e b =
    let there = less_there name text before later beyond e b in
    let so_far = s.past before later beyond e b in
    let place : at + (length before - at) ≡ length before = omega arith in
    let byte : get_or (drop at text) (length before - at) 0 ≡ 60 = get_or-drop at text (length before - at) 0 ∙ ap (λ (i : ℕ). get_or text i 0) place ∙ there.1 in
    let long = length-drop at text in
    none (length before - at) (omega arith) (omega (arith, there.0)) (eq-eqb _ 60 byte)

pub less_boundary : (text : List ℕ) (at found : ℕ) → at ≤ length text → NoneBefore (Passes (is_byte 60) (drop at text)) 0 (length (drop at text)) found → Passes (is_byte 60) (drop at text) found → IsCharBoundary text (at + found)
less_boundary text at found within none there =
    let byte : get_or text (at + found) 0 ≡ 60 = sym (get_or-drop at text found 0) ∙ eqb-true _ 60 there in
    IsCharBoundary-before_ascii text (at + found) (omega (arith, none.high, length-drop at text)) (omega arith)

-- the end tag at that place is the first
pub first_end : (name text front rest after : List ℕ) (at : ℕ) → front ≡ take at text → rest ≡ drop at text → at ≤ length text → BeginsEnd rest name after →
    ((before later beyond : List ℕ) → text ≡ before ++ later → BeginsEnd later name beyond → at ≤ length before) → EndsAtTag name text front rest
first_end name text front rest after at e f within b first =
    let long : length front ≡ at = ap length e ∙ length-take-le at text within in
    record {
      is = sym (take-append-drop at text) ∙ ap (λ (t : List ℕ). t ++ drop at text) (sym e) ∙ ap (λ (t : List ℕ). front ++ t) (sym f);
      after = after;
      ends = b;
      first = λ before later beyond g h. (let low = first before later beyond g h in omega arith);
    }

-- where the first of the places left has none, the next ones are left
pub goes_past : (name text rest : List ℕ) (at : ℕ) → at < length text → rest ≡ drop at text → ((r : List ℕ) → BeginsEnd rest name r → ⊥) →
    ((before later beyond : List ℕ) → text ≡ before ++ later → BeginsEnd later name beyond → at ≤ length before) → Searched name text (at + 1)
goes_past name text rest at within f none first = record {
  within = omega arith;
  past = λ before later beyond e b. elim (cases_lt at (length before)) [
    | inl less ↦ omega arith
    | inr past ↦
        (let low = first before later beyond e b in
        let same : length before ≡ at = omega arith in
        let here : later ≡ rest = sym (drop_front before later) ∙ ap (drop (length before)) (sym e) ∙ ap (λ (n : ℕ). drop n text) same ∙ sym f in
        absurd (none beyond (subst (λ (t : List ℕ). BeginsEnd t name beyond) here b)))
  ];
}
