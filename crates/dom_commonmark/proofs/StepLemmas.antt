-- What is written of a text, byte by byte.
use Rattle.std.proofs.Common.{◌≡◌, ℕ, ◌+◌, ◌-◌, ◌<◌, ◌≤◌, Bool, true, false, List, [], ◌∷◌, ◌++◌, length, reverse, take, drop, get_or, refl, sym, ◌∙◌, ap, arith, append_assoc, append-nil, take_all, length-drop}
use Rattle.std.specs.List.{slice_range}
use Rattle.std.specs.Str.{IsCharBoundary, IsUtf8}
use Rattle.std.proofs.lemmas.List.{at_drop_more, at_drop_all, get_or-drop, reverse-append, take_more}
use Rattle.std.proofs.lemmas.Str.{IsCharBoundary-after_ascii}
use Rattle.dom_nodes.specs.Ascii.{backslash}
use Rattle.dom_commonmark.specs.Escaping.{IsNextMark, escaped_from, escaped_on, is_marked}
use Rattle.dom_commonmark.specs.declared.escaping.Place.{Place}

abbrev pub marked_at : Place → List ℕ → ℕ → Bool
marked_at place text at = is_marked place (reverse (take at text)) (get_or text at 0) (drop (at + 1) text)

turned : (text : List ℕ) (at : ℕ) → at < length text → reverse (take (at + 1) text) ≡ get_or text at 0 ∷ reverse (take at text)
turned text at within = ap reverse (take_more text at 0 within) ∙ reverse-append (take at text) (get_or text at 0 ∷ [])

step_marked : (place : Place) (text : List ℕ) (at : ℕ) → at < length text → marked_at place text at ≡ true → escaped_from place text at ≡ backslash ∷ get_or text at 0 ∷ escaped_from place text (at + 1)
step_marked place text at within marked = at_drop_more (escaped_on place (reverse (take at text))) text at 0 within ∙ rw (marked, turned text at within) refl

step_plain : (place : Place) (text : List ℕ) (at : ℕ) → at < length text → marked_at place text at ≡ false → escaped_from place text at ≡ get_or text at 0 ∷ escaped_from place text (at + 1)
step_plain place text at within plain = at_drop_more (escaped_on place (reverse (take at text))) text at 0 within ∙ rw (plain, turned text at within) refl

-- the bytes between two offsets, and one more
seam : (text : List ℕ) (from at : ℕ) → from ≤ at → at < length text → slice_range text from (at + 1) ≡ slice_range text from at ++ get_or text at 0 ∷ []
seam text from at past within =
    let more : at + 1 - from ≡ at - from + 1 = omega arith in
    let all : from + (at - from) ≡ at = omega arith in
    let same : get_or (drop from text) (at - from) 0 ≡ get_or text at 0 = get_or-drop from text (at - from) 0 ∙ ap (λ n. get_or text n 0) all in
    ap (λ n. take n (drop from text)) more ∙ (take_more (drop from text) (at - from) 0 (omega (arith, length-drop from text)) ∙ ap (λ b. take (at - from) (drop from text) ++ b ∷ []) same)

-- from one offset to another nothing gets a backslash
abbrev pub IsPlainTo : Place → List ℕ → ℕ → ℕ → Type 0
IsPlainTo place text from at = escaped_from place text from ≡ slice_range text from at ++ escaped_from place text at

pub plain_start : (place : Place) (text : List ℕ) (from : ℕ) → IsPlainTo place text from from
plain_start place text from = let none : from - from ≡ 0 = omega arith in rw none refl

pub plain_more : (place : Place) (text : List ℕ) (from at : ℕ) → from ≤ at → at < length text → IsPlainTo place text from at → marked_at place text at ≡ false → IsPlainTo place text from (at + 1)
plain_more place text from at past within plain unmarked =
    plain ∙ (ap (λ t. slice_range text from at ++ t) (step_plain place text at within unmarked)
    ∙ (sym (append_assoc (slice_range text from at) (get_or text at 0 ∷ []) (escaped_from place text (at + 1)))
    ∙ ap (λ t. t ++ escaped_from place text (at + 1)) (sym (seam text from at past within))))

pub marked_here : (place : Place) (text : List ℕ) (from at : ℕ) → at < length text → IsPlainTo place text from at → marked_at place text at ≡ true →
    escaped_from place text from ≡ slice_range text from at ++ backslash ∷ get_or text at 0 ∷ escaped_from place text (at + 1)
marked_here place text from at within plain marked = plain ∙ ap (λ t. slice_range text from at ++ t) (step_marked place text at within marked)

pub plain_all : (place : Place) (text : List ℕ) (from at : ℕ) → length text ≤ at → IsPlainTo place text from at → escaped_from place text from ≡ drop from text
plain_all place text from at past plain =
    plain ∙ (ap (λ t. slice_range text from at ++ t) (at_drop_all (escaped_on place (reverse (take at text))) text at past)
    ∙ (append-nil (slice_range text from at) ∙ take_all (at - from) (drop from text) (omega (arith, length-drop from text))))

pub after_mark : (place : Place) (text : List ℕ) (from at : ℕ) → IsUtf8 text → IsNextMark place text from at → IsCharBoundary text (at + 1)
after_mark place text from at utf8 found = IsCharBoundary-after_ascii text at utf8 found.within found.ascii

pub cut_whole : (place : Place) (text before mark : List ℕ) (from at : ℕ) → IsNextMark place text from at → before ≡ slice_range text from at → mark ≡ slice_range text at (at + 1) →
    escaped_from place text from ≡ before ++ backslash ∷ (mark ++ escaped_from place text (at + 1))
cut_whole place text before mark from at found p q =
    let one : at + 1 - at ≡ 1 = omega arith in
    let middle : mark ≡ get_or text at 0 ∷ [] = q ∙ (ap (λ n. take n (drop at text)) one ∙ at_drop_more (take 1) text at 0 found.within) in
    rw (p, middle) found.whole

-- ---- the loop that appends

pub start : (place : Place) (text old new : List ℕ) → old ≡ new → old ++ escaped_from place text 0 ≡ new ++ escaped_on place [] text
start place text old new same = rw same refl

pub turn : (made rest all front mark next : List ℕ) → made ++ rest ≡ all → rest ≡ front ++ backslash ∷ (mark ++ next) → (((made ++ front) ++ backslash ∷ []) ++ mark) ++ next ≡ all
turn made rest all front mark next whole is =
    append_assoc ((made ++ front) ++ backslash ∷ []) mark next ∙ (append_assoc (made ++ front) (backslash ∷ []) (mark ++ next) ∙ (append_assoc made front (backslash ∷ (mark ++ next)) ∙ (ap (λ t. made ++ t) (sym is) ∙ whole)))

-- a slice from an offset on
pub tail_all : (text : List ℕ) (n : ℕ) → take (length text - n) (drop n text) ≡ drop n text
tail_all text n = take_all (length text - n) (drop n text) (omega (arith, length-drop n text))
