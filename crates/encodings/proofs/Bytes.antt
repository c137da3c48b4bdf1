-- Characters of single bytes.
use Rattle.std.proofs.Common.{◌≡◌, ℕ, suc, ◌<◌, ◌+◌, List, [], ◌∷◌, ◌++◌, length, map, take, drop, get_or, arith, refl, sym, ap, ap₂, ◌∙◌, subst, Option, Some}
use Rattle.std.proofs.lemmas.Bool.Decides.{nat_tests}
use Rattle.std.proofs.lemmas.List.{take_more, take-append-drop}
use Rattle.std.specs.Str.{IsAscii}
use Rattle.decoded_text.specs.declared.decoded.Decoded.{Decoded}
use Rattle.decoded_text.specs.Characters.{Appends, Continues}
use Rattle.decoded_text.proofs.Texts.{appends-both, appends-nothing, continues-more, continues-end}
use Rattle.encodings.specs.SingleByte.{character_of, characters}

characters-append : (index xs ys : List ℕ) → characters index (xs ++ ys) ≡ characters index xs ++ characters index ys
characters-append index [] ys = refl
characters-append index (x ∷ xs) ys = ap (λ r. character_of index x ∷ r) (characters-append index xs ys)

itself : (index : List ℕ) (b : ℕ) → b < 128 → character_of index b ≡ Some b
unfolding character_of
itself index b h = grind (arith, nat_tests)

characters-ascii : (index bs : List ℕ) → IsAscii bs → characters index bs ≡ map Some bs
characters-ascii index [] h = refl
characters-ascii index (b ∷ bs) h = ap₂ (λ c r. c ∷ r) (itself index b (h 0)) (characters-ascii index bs (λ i. h (suc i)))

pub begin : (index : List ℕ) (old : Decoded) → Appends old old (characters index [])
begin index old = appends-nothing old

pub more : (index bytes : List ℕ) (old mid new : Decoded) (i : ℕ) (c : Option ℕ) → Appends old mid (characters index (take i bytes)) → i < length bytes →
    c ≡ character_of index (get_or bytes i 0) → Appends mid new (c ∷ []) → Appends old new (characters index (take (i + 1) bytes))
more index bytes old mid new i c so_far within is one =
    let P : List (Option ℕ) → Type 0 = λ items. Appends old new items in
    subst P
    (ap (λ c. characters index (take i bytes) ++ (c ∷ [])) is ∙ sym (characters-append index (take i bytes) (get_or bytes i 0 ∷ []))
    ∙ ap (characters index) (sym (take_more bytes i 0 within)))
    (appends-both old mid new (characters index (take i bytes)) (c ∷ []) so_far one)

-- a run of ASCII and a run of any bytes more
pub step : (index rest ascii others mixed left : List ℕ) (before : List (Option ℕ)) (old mid between new : Decoded) (n : ℕ) → Continues old before mid (characters index rest) →
    rest ≡ ascii ++ others → IsAscii ascii → Appends mid between (map Some ascii) → mixed ≡ take n others → left ≡ drop n others →
    Appends between new (characters index mixed) → Continues old before new (characters index left)
step index rest ascii others mixed left before old mid between new n so_far parts h first front back second =
    let cut : others ≡ mixed ++ left = sym (ap₂ (λ x y. x ++ y) front back ∙ take-append-drop n others) in
    continues-more old between new before (characters index others) (characters index left) (characters index mixed)
    (continues-more old mid between before (characters index rest) (characters index others) (map Some ascii) so_far
    (ap (characters index) parts ∙ characters-append index ascii others ∙ ap (λ c. c ++ characters index others) (characters-ascii index ascii h)) first)
    (ap (characters index) cut ∙ characters-append index mixed left) second

-- nothing is left
pub finished : (index rest : List ℕ) (before : List (Option ℕ)) (old new : Decoded) → Continues old before new (characters index rest) → length rest ≡ 0 → Appends old new before
finished index [] before old new all h = continues-end old new before all
finished index (b ∷ bs) before old new all h = absurd (omega arith)
