-- How far a text goes.
use Rattle.std.proofs.Common.{◌≡◌, ◌≢◌, ℕ, zero, suc, ◌+◌, ◌<◌, ◌≤◌, get_or, List, [], ◌∷◌, Bool, true, false, refl, ap, arith, take, drop, length, length-drop}
use Rattle.std.specs.Prelude.{◌==◌, ◌||◌}
use Rattle.std.proofs.lemmas.Bool.{and_parts, eqb-true, eq-eqb, ne_eqb}
use Rattle.std.proofs.lemmas.List.{drop-drop}
use Rattle.std.specs.Str.{IsCharBoundary}
use Rattle.memchr.specs.Find.{Nowhere, NoneBefore, Passes, is_byte}
use Rattle.dom_markup.specs.Bytes.{is_letter}
use Rattle.dom_markup.specs.Markup.{begins_markup, text_front}

-- where markup begins, no text does
pub no_front : (text : List ℕ) → begins_markup text ≡ true → text_front text ≡ []
no_front [] h = refl
no_front (b ∷ bs) h = rw h refl

pub some_front : (text : List ℕ) → text ≢ [] → begins_markup text ≡ false → text_front text ≢ []
some_front [] some h = absurd (some refl)
some_front (b ∷ bs) some h = λ e. (let is : text_front (b ∷ bs) ≡ b ∷ text_front bs = rw h refl in cc)

pub begins_less : (text : List ℕ) → begins_markup text ≡ true → (rest : List ℕ) × (text ≡ 60 ∷ rest)
begins_less [] h = cc
begins_less (a ∷ []) h = cc
begins_less (a ∷ b ∷ bs) h = (b ∷ bs, ap (λ (x : ℕ). x ∷ b ∷ bs) (eqb-true a 60 (and_parts (a == 60) (is_letter b || b == 47 || b == 33 || b == 63) h).0))

-- the text is a front of what it stands in
pub take_front : (text : List ℕ) → take (length (text_front text)) text ≡ text_front text
take_front [] = refl
take_front (b ∷ bs) = go (take_front bs) (begins_markup (b ∷ bs)) refl
  where
    go : take (length (text_front bs)) bs ≡ text_front bs → (c : Bool) → begins_markup (b ∷ bs) ≡ c → take (length (text_front (b ∷ bs))) (b ∷ bs) ≡ text_front (b ∷ bs)
    go more true e = rw e refl
    go more false e = rw e (ap (λ t. b ∷ t) more)

front_within : (text : List ℕ) → length (text_front text) ≤ length text
front_within [] = omega arith
front_within (b ∷ bs) = go (front_within bs) (begins_markup (b ∷ bs)) refl
  where
    go : length (text_front bs) ≤ length bs → (c : Bool) → begins_markup (b ∷ bs) ≡ c → length (text_front (b ∷ bs)) ≤ length (b ∷ bs)
    go more true e = rw e (omega arith)
    go more false e = rw e (omega (arith, more))

-- it ends before a `<`
front_stops : (text : List ℕ) → length (text_front text) < length text → get_or text (length (text_front text)) 0 ≡ 60
front_stops [] h = absurd (omega arith)
front_stops (b ∷ bs) h = go (front_stops bs) (begins_markup (b ∷ bs)) refl
  where
    go : (length (text_front bs) < length bs → get_or bs (length (text_front bs)) 0 ≡ 60) → (c : Bool) → begins_markup (b ∷ bs) ≡ c → get_or (b ∷ bs) (length (text_front (b ∷ bs))) 0 ≡ 60
    go more true e =
        let less = begins_less (b ∷ bs) e in
        let is : b ≡ 60 = cc (less.1) in
        rw e is
    go more false e =
        let is : text_front (b ∷ bs) ≡ b ∷ text_front bs = rw e refl in
        rw e (more (omega (arith, h, ap length is)))

pub text_boundary : (text : List ℕ) → IsCharBoundary text (length (text_front text))
text_boundary text = (front_within text, λ l h. (let is = front_stops text l in absurd (omega arith)))

other_less : (text : List ℕ) → (get_or text 0 0 ≡ 60 → ⊥) → begins_markup text ≡ false
other_less [] h = refl
other_less (a ∷ []) h = refl
other_less (a ∷ b ∷ bs) h = let no : (a == 60) ≡ false = ne_eqb a 60 h in rw no refl

-- bytes before the first `<` belong to the text
pub front_plain : (n : ℕ) (text : List ℕ) → n ≤ length text → ((k : ℕ) → k < n → get_or text k 0 ≡ 60 → ⊥) → length (text_front text) ≡ n + length (text_front (drop n text))
front_plain zero text l h = omega arith
front_plain (suc n) [] l h = absurd (omega arith)
front_plain (suc n) (b ∷ bs) l h =
    let here = other_less (b ∷ bs) (h 0 (omega arith)) in
    let is : text_front (b ∷ bs) ≡ b ∷ text_front bs = rw here refl in
    omega (arith, ap length is, front_plain n bs (omega arith) (λ k below. h (suc k) (omega arith)))

-- so does a `<` where no markup begins
pub front_bare : (text : List ℕ) → 0 < length text → begins_markup text ≡ false → length (text_front text) ≡ 1 + length (text_front (drop 1 text))
front_bare [] l h = absurd (omega arith)
front_bare (b ∷ bs) l h = let is : text_front (b ∷ bs) ≡ b ∷ text_front bs = rw h refl in omega (arith, ap length is)

-- ---- the search for its end

-- what is searched is plain up to the next `<`
to_less : (text : List ℕ) (at found : ℕ) → at ≤ length text → length (text_front text) ≡ at + length (text_front (drop at text)) → NoneBefore (Passes (is_byte 60) (drop at text)) 0 (length (drop at text)) found →
    length (text_front text) ≡ at + found + length (text_front (drop (at + found) text))
to_less text at found within same first =
    let plain = front_plain found (drop at text) (omega (arith, first.high)) (λ k below is. first.before k (omega arith) below (eq-eqb _ 60 is)) in
    omega (arith, same, plain, ap (λ t. length (text_front t)) (drop-drop found at text))

pub front_ends : (text : List ℕ) (at found : ℕ) → at ≤ length text → length (text_front text) ≡ at + length (text_front (drop at text)) → NoneBefore (Passes (is_byte 60) (drop at text)) 0 (length (drop at text)) found → begins_markup (drop (at + found) text) ≡ true →
    at + found ≡ length (text_front text)
front_ends text at found within same first begins =
    omega (arith, to_less text at found within same first, ap length (no_front (drop (at + found) text) begins))

-- markup begins at the first `<`, and there the text ends
pub plain_ends : (text : List ℕ) (found : ℕ) → NoneBefore (Passes (is_byte 60) text) 0 (length text) found → begins_markup (drop found text) ≡ true → found ≡ length (text_front text)
plain_ends text found first begins =
    let plain = front_plain found text (omega (arith, first.high)) (λ k below is. first.before k (omega arith) below (eq-eqb _ 60 is)) in
    omega (arith, plain, ap length (no_front (drop found text) begins))

pub front_goes_on : (text : List ℕ) (at found : ℕ) → at ≤ length text → length (text_front text) ≡ at + length (text_front (drop at text)) → NoneBefore (Passes (is_byte 60) (drop at text)) 0 (length (drop at text)) found → begins_markup (drop (at + found) text) ≡ false →
    length (text_front text) ≡ at + found + 1 + length (text_front (drop (at + found + 1) text))
front_goes_on text at found within same first begins =
    let left = length-drop at text in
    let more = length-drop (at + found) text in
    let bare = front_bare (drop (at + found) text) (omega (arith, first.high)) begins in
    omega (arith, to_less text at found within same first, bare, ap (λ t. length (text_front t)) (drop-drop 1 (at + found) text))

pub front_all : (text : List ℕ) (at : ℕ) → at ≤ length text → length (text_front text) ≡ at + length (text_front (drop at text)) → Nowhere (Passes (is_byte 60) (drop at text)) 0 (length (drop at text)) → length text ≡ length (text_front text)
front_all text at within same none =
    let rest = drop at text in
    let plain = front_plain (length rest) rest (omega arith) (λ k below is. none k (omega arith) below (eq-eqb _ 60 is)) in
    omega (arith, same, plain, length-drop at text, front_within (drop (length rest) rest), length-drop (length rest) rest)
