-- What the first byte of a text gives, whatever follows.
use Rattle.std.proofs.Common.{◌≡◌, ℕ, List, [], ◌∷◌, ◌++◌, true, false, refl, sym, ap, ◌∙◌, nat_lt, ◌<◌, ◌≤◌, length, arith, Option, Some, None}
use Rattle.std.proofs.lemmas.Bool.Decides.{nat_tests}
use Rattle.big5.specs.declared.decoding.Marked.{Marked}
use Rattle.big5.specs.Decoding.{after_two, alone, characters, is_lead, mark_of, marked, of_two, unmarked}

one : (index : List ℕ) (lead : ℕ) (all : List ℕ) → is_lead lead ≡ false → characters index (lead ∷ all) ≡ alone lead ∷ characters index all
unfolding characters
one index lead [] h = rw h refl
one index lead (trail ∷ rest) h = rw h refl

pub step_one : (index bytes after more : List ℕ) (lead : ℕ) (c : Option ℕ) → bytes ≡ lead ∷ after → is_lead lead ≡ false → c ≡ alone lead → characters index (bytes ++ more) ≡ c ∷ characters index (after ++ more)
step_one index bytes after more lead c is h k =
    ap (λ b. characters index (b ++ more)) is ∙ one index lead (after ++ more) h ∙ ap (λ a. a ∷ characters index (after ++ more)) (sym k)

no_lead : (b : ℕ) → b < 128 → is_lead b ≡ false
no_lead b h = grind (arith, nat_tests)

itself : (b : ℕ) → b < 128 → alone b ≡ Some b
itself b h = grind (arith, nat_tests)

pub ascii : (index : List ℕ) (b : ℕ) (all : List ℕ) → b < 128 → characters index (b ∷ all) ≡ Some b ∷ characters index all
ascii index b all h = one index b all (no_lead b h) ∙ ap (λ c. c ∷ characters index all) (itself b h)

two : (index : List ℕ) (lead trail : ℕ) (all : List ℕ) → is_lead lead ≡ true →
    characters index (lead ∷ trail ∷ all) ≡ after_two (of_two index lead trail) (mark_of lead trail) trail (characters index (trail ∷ all)) (characters index all)
unfolding characters
two index lead trail all h = rw h refl

two_is : (index after others more : List ℕ) (lead trail : ℕ) (found : Option ℕ) → is_lead lead ≡ true → after ≡ trail ∷ others → found ≡ of_two index lead trail →
    characters index (lead ∷ (after ++ more)) ≡ after_two found (mark_of lead trail) trail (characters index (trail ∷ (others ++ more))) (characters index (others ++ more))
two_is index after others more lead trail found h next is =
    ap (λ b. characters index (lead ∷ (b ++ more))) next ∙ two index lead trail (others ++ more) h
    ∙ ap (λ t. after_two t (mark_of lead trail) trail (characters index (trail ∷ (others ++ more))) (characters index (others ++ more))) (sym is)

pub pair_some : (index after others more : List ℕ) (lead trail c : ℕ) (mark : Option ℕ) → is_lead lead ≡ true → after ≡ trail ∷ others → Some c ≡ of_two index lead trail → mark ≡ mark_of lead trail →
    characters index (lead ∷ (after ++ more)) ≡ marked (Some c) mark ++ characters index (others ++ more)
pair_some index after others more lead trail c mark h next is with =
    two_is index after others more lead trail (Some c) h next is ∙ ap (λ m. marked (Some c) m ++ characters index (others ++ more)) (sym with)

pub pair_ascii : (index after others more : List ℕ) (lead trail : ℕ) → is_lead lead ≡ true → after ≡ trail ∷ others → None ≡ of_two index lead trail → trail < 128 →
    characters index (lead ∷ (after ++ more)) ≡ None ∷ characters index (after ++ more)
pair_ascii index after others more lead trail h next is ascii =
    let test : nat_lt trail 128 ≡ true = grind (arith, nat_tests) in
    two_is index after others more lead trail None h next is ∙ rw test (ap (λ b. None ∷ characters index (b ++ more)) (sym next))

pub pair_none : (index after others more : List ℕ) (lead trail : ℕ) → is_lead lead ≡ true → after ≡ trail ∷ others → None ≡ of_two index lead trail → 128 ≤ trail →
    characters index (lead ∷ (after ++ more)) ≡ None ∷ characters index (others ++ more)
pair_none index after others more lead trail h next is ascii =
    let test : nat_lt trail 128 ≡ false = grind (arith, nat_tests) in two_is index after others more lead trail None h next is ∙ rw test refl

pub cut : (index after more : List ℕ) (lead : ℕ) → is_lead lead ≡ true → length after ≡ 0 → more ≡ [] → characters index (lead ∷ (after ++ more)) ≡ None ∷ characters index (after ++ more)
unfolding characters
cut index [] more lead h none last = ap (λ m. characters index (lead ∷ m)) last ∙ rw h refl ∙ ap (λ m. None ∷ characters index m) (sym last)
cut index (b ∷ bs) more lead h none last = absurd (omega arith)

pub without_mark : (whole rest : List (Option ℕ)) (found : Marked) (c : Option ℕ) → found ≡ unmarked c → whole ≡ c ∷ rest → whole ≡ marked found.character found.mark ++ rest
without_mark whole rest found c is h = h ∙ ap (λ m. marked m.character m.mark ++ rest) (sym is)
