-- Line feeds at the front of texts.
use Rattle.std.proofs.Common.{ℕ, ◌≡◌, ◌≢◌, ◌==◌, ◌+◌, ◌&&◌, Bool, true, false, cond, if◌then◌else◌, not, List, [], ◌∷◌, ◌++◌, refl, sym, ap, ◌∙◌, subst, arith, inl, inr, append_assoc}
use Rattle.std.specs.Prelude.{codes, encode_utf8}
use Rattle.std.specs.List.{flat_map}
use Rattle.std.specs.Str.{IsUtf8, chars, encode_utf8_all}
use Rattle.std.proofs.Math.Utf8.{scalar, scalars}
use Rattle.std.proofs.lemmas.Bool.{cases_Bool, and_parts, cond_both, eqb-true, not-true}
use Rattle.std.proofs.lemmas.Str.{chars-encodes, encode_ascii, encode_same, encodes-chars, scalars-chars}
use Rattle.dom_nodes.specs.Escaping.{spaced_char}
use Rattle.dom_markup.specs.Escaping.{escaped_text, lacks, text_char}
use Rattle.dom_markup.proofs.html.InertLemmas.{encode_lacks}
use Rattle.calm_pages.specs.Calm.{begins_line}
use Rattle.dom_clean.specs.Ahead.{is_nil, seen}
use Rattle.dom_clean.specs.Cleaned.{after_lines}
use Rattle.dom_clean.specs.Joined.{IsWritable}
use Rattle.dom_clean.specs.Spelled.{AreSpelled}

-- in front of any text it is no line feed
record IsOther (bytes : List ℕ) : Type 0 where
  stays : (rest : List ℕ) → after_lines (bytes ++ rest) ≡ bytes ++ rest

cons_other : (b : ℕ) (bytes : List ℕ) → (b == 10) ≡ false → IsOther (b ∷ bytes)
cons_other b bytes f = record { stays = λ rest. rw f refl }

lacks_other : (bytes : List ℕ) → bytes ≢ [] → lacks 10 bytes ≡ true → IsOther bytes
lacks_other [] some none = absurd (some refl)
lacks_other (b ∷ bytes) some none = cons_other b bytes (not-true (b == 10) (and_parts (not (b == 10)) (lacks 10 bytes) none).0)

-- else it could stand before the next character, and be that one
encode_some : (c : ℕ) → encode_utf8 c ≢ []
encode_some c none =
    let next = encode_utf8 (c + 1) ++ [] in
    let same = (encode_same c (c + 1) next [] (ap (λ (l : List ℕ). l ++ next) none)).0 in
    absurd (omega (arith, same))

encode_other : (c : ℕ) → (c == 10) ≡ false → IsOther (encode_utf8 c)
encode_other c f = lacks_other (encode_utf8 c) (encode_some c) (encode_lacks 10 c (omega arith) f)

spaced_other : (c : ℕ) → (c == 10) ≡ false → IsOther (spaced_char c)
spaced_other c f = cond_both (c == 160) (codes "&nbsp;") (encode_utf8 c) IsOther (λ _. record { stays = λ rest. refl }) (λ _. encode_other c f)

text_char_other : (c : ℕ) → (c == 10) ≡ false → IsOther (text_char c)
text_char_other c f =
    cond_both (c == 38) (codes "&amp;") _ IsOther (λ _. record { stays = λ rest. refl })
    (λ _. cond_both (c == 60) (codes "&lt;") _ IsOther (λ _. record { stays = λ rest. refl })
    (λ _. cond_both (c == 62) (codes "&gt;") _ IsOther (λ _. record { stays = λ rest. refl }) (λ _. spaced_other c f)))

-- the characters after line feeds
abbrev drop_lines : List ℕ → List ℕ
drop_lines [] = []
drop_lines (c ∷ cs) = if c == 10 then drop_lines cs else c ∷ cs

-- what follows characters where nothing is left of them
abbrev past : List ℕ → List ℕ → List ℕ
past [] rest = after_lines rest
past (c ∷ cs) rest = rest

feed : text_char 10 ≡ 10 ∷ []
feed = encode_ascii 10 (omega arith)

lines_text : (cs rest : List ℕ) → after_lines (flat_map text_char cs ++ rest) ≡ flat_map text_char (drop_lines cs) ++ past (drop_lines cs) rest
lines_text [] rest = refl
lines_text (c ∷ cs) rest =
    let made : List ℕ → List ℕ = λ left. flat_map text_char left ++ past left rest in
    let more = flat_map text_char cs in
    elim (cases_Bool (c == 10)) [
      | inl t ↦
          (let is : c ≡ 10 = eqb-true c 10 t in
          ap (λ (k : ℕ). after_lines ((text_char k ++ more) ++ rest)) is ∙ ap (λ (f : List ℕ). after_lines ((f ++ more) ++ rest)) feed
          ∙ lines_text cs rest ∙ ap (λ (b : Bool). made (cond b (drop_lines cs) (c ∷ cs))) (sym t))
      | inr f ↦
          (ap after_lines (append_assoc (text_char c) more rest) ∙ (text_char_other c f).stays (more ++ rest) ∙ sym (append_assoc (text_char c) more rest)
          ∙ ap (λ (b : Bool). made (cond b (drop_lines cs) (c ∷ cs))) (sym f))
    ]

lines_encodes : (cs : List ℕ) → after_lines (encode_utf8_all cs) ≡ encode_utf8_all (drop_lines cs)
lines_encodes [] = refl
lines_encodes (c ∷ cs) =
    let more = encode_utf8_all cs in
    elim (cases_Bool (c == 10)) [
      | inl t ↦
          (let is : c ≡ 10 = eqb-true c 10 t in
          ap (λ (k : ℕ). after_lines (encode_utf8 k ++ more)) is ∙ ap (λ (f : List ℕ). after_lines (f ++ more)) feed
          ∙ lines_encodes cs ∙ ap (λ (b : Bool). encode_utf8_all (cond b (drop_lines cs) (c ∷ cs))) (sym t))
      | inr f ↦ ((encode_other c f).stays more ∙ ap (λ (b : Bool). encode_utf8_all (cond b (drop_lines cs) (c ∷ cs))) (sym f))
    ]

drop_scalars : (cs : List ℕ) → scalars cs ≡ true → scalars (drop_lines cs) ≡ true
drop_scalars [] all = all
drop_scalars (c ∷ cs) all =
    cond_both (c == 10) (drop_lines cs) (c ∷ cs) (λ (l : List ℕ). scalars l ≡ true) (λ _. drop_scalars cs (and_parts (scalar c) (scalars cs) all).1) (λ _. all)

nil_append : (xs ys : List ℕ) → xs ≢ [] → is_nil (xs ++ ys) ≡ false
nil_append [] ys some = absurd (some refl)
nil_append (x ∷ xs) ys some = refl

nil_encodes : (cs : List ℕ) → is_nil (encode_utf8_all cs) ≡ is_nil cs
nil_encodes [] = refl
nil_encodes (c ∷ cs) = nil_append (encode_utf8 c) (encode_utf8_all cs) (encode_some c)

past_seen : (cs rest : List ℕ) → past cs rest ≡ seen (is_nil cs) rest
past_seen [] rest = refl
past_seen (c ∷ cs) rest = refl

pub lines_escaped : (text rest : List ℕ) → IsUtf8 text → after_lines (escaped_text text ++ rest) ≡ escaped_text (after_lines text) ++ seen (is_nil (after_lines text)) rest
lines_escaped text rest utf8 =
    let cs = chars text in
    let left = drop_lines cs in
    let is : after_lines text ≡ encode_utf8_all left = ap after_lines (sym (encodes-chars text utf8)) ∙ lines_encodes cs in
    let inner : chars (after_lines text) ≡ left = ap chars is ∙ chars-encodes left (drop_scalars cs (scalars-chars text utf8)) in
    let nil : is_nil (after_lines text) ≡ is_nil left = ap is_nil is ∙ nil_encodes left in
    lines_text cs rest ∙ ap (λ (l : List ℕ). flat_map text_char l ++ past left rest) (sym inner)
    ∙ ap (λ (t : List ℕ). escaped_text (after_lines text) ++ t) (past_seen left rest ∙ ap (λ (b : Bool). seen b rest) (sym nil))

-- a text, where its line feeds may be seen or not
pub lines_seen : (in_front : Bool) (text rest : List ℕ) → IsUtf8 text →
    seen in_front (escaped_text text ++ rest) ≡ escaped_text (seen in_front text) ++ seen (in_front && is_nil (after_lines text)) rest
lines_seen true text rest utf8 = lines_escaped text rest utf8
lines_seen false text rest utf8 = refl

-- a tag is no line feed
pub lines_before_tag : (in_front : Bool) (text more : List ℕ) → seen in_front (text ++ (60 ∷ more)) ≡ seen in_front text ++ (60 ∷ more)
lines_before_tag false text more = refl
lines_before_tag true [] more = refl
lines_before_tag true (b ∷ text) more =
    elim (cases_Bool (b == 10)) as (λ t. after_lines ((b ∷ text) ++ (60 ∷ more)) ≡ after_lines (b ∷ text) ++ (60 ∷ more)) [
      | inl t ↦ rw t (lines_before_tag true text more)
      | inr f ↦ rw f refl
    ]

spelled_lines : (cs : List ℕ) → AreSpelled cs → AreSpelled (drop_lines cs)
spelled_lines [] are = tt
spelled_lines (c ∷ cs) are = cond_both (c == 10) (drop_lines cs) (c ∷ cs) AreSpelled (λ _. spelled_lines cs are.1) (λ _. are)

pub after_lines_writable : (text : List ℕ) → IsWritable text → IsWritable (after_lines text)
after_lines_writable text is =
    let cs = chars text in
    let left = drop_lines cs in
    let made : after_lines text ≡ encode_utf8_all left = ap after_lines (sym (encodes-chars text is.utf8)) ∙ lines_encodes cs in
    let scalar_left = drop_scalars cs (scalars-chars text is.utf8) in
    let inner : chars (after_lines text) ≡ left = ap chars made ∙ chars-encodes left scalar_left in
    record { utf8 = (left, (scalar_left, sym made)); spelled = subst AreSpelled (sym inner) (spelled_lines cs is.spelled) }

-- a text that begins with none stays as it is
pub lines_stay : (text : List ℕ) → begins_line text ≡ false → after_lines text ≡ text
lines_stay [] isnt = refl
lines_stay (b ∷ text) isnt = ap (λ t. cond t (after_lines text) (b ∷ text)) isnt
