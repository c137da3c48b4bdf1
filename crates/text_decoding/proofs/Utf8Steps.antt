-- Steps of the decoder of UTF-8.
use Rattle.std.proofs.Common.{◌≡◌, ℕ, ◌-◌, List, [], ◌∷◌, ◌++◌, true, false, ◌==◌, map, length, refl, sym, ap, ◌∙◌, subst, append_assoc, arith, eq-eqb, Option, Some, None}
use Rattle.std.proofs.lemmas.Bool.Decides.{nat_tests}
use Rattle.std.specs.Str.{IsUtf8, chars}
use Rattle.decoded_text.specs.declared.decoded.Decoded.{Decoded}
use Rattle.decoded_text.specs.Characters.{Appends, Continues}
use Rattle.decoded_text.proofs.Texts.{continues-both, continues-more, continues-one, continues-start}
use Rattle.text_decoding.specs.declared.utf8.Utf8State.{Utf8State}
use Rattle.text_decoding.specs.Utf8.{alone, at_first, begun, begun_by, character, characters, code_with, fresh, is_between, or_alone}
use Rattle.text_decoding.proofs.Utf8Texts.{last, more, text}

differs : (a b : ℕ) → (a ≡ b → ⊥) → (a == b) ≡ false
differs a b h = grind (arith, nat_tests)

continues_as : (old new : Decoded) (before same after : List (Option ℕ)) → before ≡ same → Continues old same new after → Continues old before new after
continues_as old new before same after is so_far = let P : List (Option ℕ) → Type 0 = λ b. Continues old b new after in subst P (sym is) so_far

at_fresh : (state : Utf8State) (byte : ℕ) (rest : List ℕ) → state.needed ≡ 0 → characters state (byte ∷ rest) ≡ at_first byte (λ after. characters after rest)
unfolding characters
at_fresh state byte rest h = rw (eq-eqb state.needed 0 h) refl

pub as_fresh : (state : Utf8State) (bytes : List ℕ) → state.needed ≡ 0 → characters state bytes ≡ characters fresh bytes
unfolding characters
as_fresh state [] h = rw (eq-eqb state.needed 0 h) refl
as_fresh state (b ∷ bs) h = rw (eq-eqb state.needed 0 h) refl

pub ended : (state : Utf8State) (out : Decoded) → state.needed ≡ 0 → Continues out (characters state []) out []
unfolding characters
ended state out h = continues_as out out (characters state []) [] [] (rw (eq-eqb state.needed 0 h) refl) (continues-start out [])

pub cut : (state : Utf8State) (out new : Decoded) → (state.needed ≡ 0 → ⊥) → Appends out new (None ∷ []) → Continues out (characters state []) new []
unfolding characters
cut state out new h one =
    continues_as out new (characters state []) (None ∷ []) [] (rw (differs state.needed 0 h) refl)
    (continues-one out out new (None ∷ []) (None ∷ []) [] None (continues-start out (None ∷ [])) refl one)

pub first_alone : (byte : ℕ) (rest : List ℕ) (out new : Decoded) (c : Option ℕ) → None ≡ begun_by byte → c ≡ alone byte → Appends out new (c ∷ []) →
    Continues out (at_first byte (λ after. characters after rest)) new (characters fresh rest)
first_alone byte rest out new c none is one =
    let same : at_first byte (λ after. characters after rest) ≡ c ∷ characters fresh rest =
    ap (λ t. or_alone t byte (λ after. characters after rest)) (sym none) ∙ ap (λ t. t ∷ characters fresh rest) (sym is) in
    continues-one out out new (at_first byte (λ after. characters after rest)) (at_first byte (λ after. characters after rest)) (characters fresh rest) c
    (continues-start out (at_first byte (λ after. characters after rest))) same one

pub next_last : (state : Utf8State) (byte code : ℕ) (rest : List ℕ) (out new : Decoded) (c : Option ℕ) → (state.needed ≡ 0 → ⊥) → is_between state.lower state.upper byte ≡ true → state.needed ≡ 1 →
    code ≡ code_with state byte → c ≡ character code → Appends out new (c ∷ []) → Continues out (characters state (byte ∷ rest)) new (characters fresh rest)
next_last state byte code rest out new c h within k is found one =
    continues-one out out new (characters state (byte ∷ rest)) (characters state (byte ∷ rest)) (characters fresh rest) c (continues-start out (characters state (byte ∷ rest)))
    (last state byte rest (differs state.needed 0 h) (eq-eqb state.needed 1 k) within ∙ ap (λ t. t ∷ characters fresh rest) (ap character (sym is) ∙ sym found)) one

pub next_more : (state : Utf8State) (byte code : ℕ) (rest : List ℕ) (out : Decoded) → (state.needed ≡ 0 → ⊥) → is_between state.lower state.upper byte ≡ true → (state.needed ≡ 1 → ⊥) →
    code ≡ code_with state byte → Continues out (characters state (byte ∷ rest)) out (characters (begun (state.needed - 1) code 128 191) rest)
next_more state byte code rest out h within k is =
    continues_as out out (characters state (byte ∷ rest)) (characters (begun (state.needed - 1) code 128 191) rest) (characters (begun (state.needed - 1) code 128 191) rest)
    (more state byte rest (differs state.needed 0 h) (differs state.needed 1 k) within ∙ ap (λ y. characters (begun (state.needed - 1) y 128 191) rest) (sym is))
    (continues-start out (characters (begun (state.needed - 1) code 128 191) rest))

pub byte_first : (state : Utf8State) (byte : ℕ) (rest : List ℕ) (out new : Decoded) (end : Utf8State) → state.needed ≡ 0 →
    Continues out (at_first byte (λ after. characters after rest)) new (characters end rest) → Continues out (characters state (byte ∷ rest)) new (characters end rest)
byte_first state byte rest out new end h so_far =
    continues_as out new (characters state (byte ∷ rest)) (at_first byte (λ after. characters after rest)) (characters end rest) (at_fresh state byte rest h) so_far

wrong : (state : Utf8State) (byte : ℕ) (rest : List ℕ) → (state.needed ≡ 0 → ⊥) → is_between state.lower state.upper byte ≡ false →
    characters state (byte ∷ rest) ≡ None ∷ at_first byte (λ after. characters after rest)
unfolding characters
wrong state byte rest h k = rw (differs state.needed 0 h, k) refl

pub byte_wrong : (state : Utf8State) (byte : ℕ) (rest : List ℕ) (out mid new : Decoded) (end : Utf8State) → (state.needed ≡ 0 → ⊥) → is_between state.lower state.upper byte ≡ false →
    Appends out mid (None ∷ []) → Continues mid (at_first byte (λ after. characters after rest)) new (characters end rest) → Continues out (characters state (byte ∷ rest)) new (characters end rest)
byte_wrong state byte rest out mid new end h k one then =
    continues-both out mid new (characters state (byte ∷ rest)) (at_first byte (λ after. characters after rest)) (characters end rest)
    (continues-one out out mid (characters state (byte ∷ rest)) (characters state (byte ∷ rest)) (at_first byte (λ after. characters after rest)) None
    (continues-start out (characters state (byte ∷ rest))) (wrong state byte rest h k) one) then

pub valid : (state : Utf8State) (bytes front rest more : List ℕ) (out new : Decoded) → state.needed ≡ 0 → bytes ≡ front ++ rest → IsUtf8 front → Appends out new (map Some (chars front)) →
    Continues out (characters state (bytes ++ more)) new (characters state (rest ++ more))
valid state bytes front rest more out new h parts is all =
    continues-more out out new (characters state (bytes ++ more)) (characters state (bytes ++ more)) (characters state (rest ++ more)) (map Some (chars front))
    (continues-start out (characters state (bytes ++ more)))
    (as_fresh state (bytes ++ more) h ∙ ap (λ b. characters fresh (b ++ more)) parts ∙ ap (characters fresh) (append_assoc front rest more) ∙ text front (rest ++ more) is
    ∙ ap (λ r. map Some (chars front) ++ r) (sym (as_fresh state (rest ++ more) h))) all

-- ---- the loop

pub loop_byte : (start state end : Utf8State) (old mid between new : Decoded) (bytes rest behind others more : List ℕ) (byte : ℕ) →
    Continues old (characters start (bytes ++ more)) mid (characters state (rest ++ more)) → Continues mid (characters state (rest ++ more)) between (characters state (behind ++ more)) →
    behind ≡ byte ∷ others → Continues between (characters state (byte ∷ (others ++ more))) new (characters end (others ++ more)) →
    Continues old (characters start (bytes ++ more)) new (characters end (others ++ more))
loop_byte start state end old mid between new bytes rest behind others more byte so_far front is one =
    continues-both old between new (characters start (bytes ++ more)) (characters state (behind ++ more)) (characters end (others ++ more))
    (continues-both old mid between (characters start (bytes ++ more)) (characters state (rest ++ more)) (characters state (behind ++ more)) so_far front)
    (continues_as between new (characters state (behind ++ more)) (characters state (byte ∷ (others ++ more))) (characters end (others ++ more))
    (ap (λ b. characters state (b ++ more)) is) one)

pub loop_end : (start state : Utf8State) (old new : Decoded) (bytes rest more : List ℕ) → Continues old (characters start (bytes ++ more)) new (characters state (rest ++ more)) → length rest ≡ 0 →
    Continues old (characters start (bytes ++ more)) new (characters state more)
loop_end start state old new bytes [] more so_far h = so_far
loop_end start state old new bytes (b ∷ bs) more so_far h = absurd (omega arith)

pub loop_cut : (start state : Utf8State) (old mid new : Decoded) (bytes rest behind more : List ℕ) → Continues old (characters start (bytes ++ more)) mid (characters state (rest ++ more)) →
    Continues mid (characters state (rest ++ more)) new (characters state (behind ++ more)) → length behind ≡ 0 → Continues old (characters start (bytes ++ more)) new (characters state more)
loop_cut start state old mid new bytes rest behind more so_far front h =
    loop_end start state old new bytes behind more
    (continues-both old mid new (characters start (bytes ++ more)) (characters state (rest ++ more)) (characters state (behind ++ more)) so_far front) h
