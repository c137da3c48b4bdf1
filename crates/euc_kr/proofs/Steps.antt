-- What the first byte of a text gives, whatever follows.
use Rattle.std.proofs.Common.{◌≡◌, ℕ, List, [], ◌∷◌, ◌++◌, true, false, refl, sym, ap, ap₂, ◌∙◌, ◌<◌, length, arith, Option, Some, None}
use Rattle.std.proofs.lemmas.Bool.Decides.{nat_tests}
use Rattle.decoded_text.specs.Characters.{character_or_error}
use Rattle.euc_kr.specs.Decoding.{alone, characters, is_lead, of_two}

one : (index : List ℕ) (lead : ℕ) (all : List ℕ) → is_lead lead ≡ false → characters index (lead ∷ all) ≡ alone lead ∷ characters index all
unfolding characters
one index lead [] h = rw h refl
one index lead (trail ∷ rest) h = rw h refl

pub step_one : (index bytes after more : List ℕ) (lead : ℕ) (c : Option ℕ) → bytes ≡ lead ∷ after → is_lead lead ≡ false → c ≡ alone lead → characters index (bytes ++ more) ≡ c ∷ characters index (after ++ more)
step_one index bytes after more lead c is h k =
    ap (λ b. characters index (b ++ more)) is ∙ one index lead (after ++ more) h ∙ ap (λ a. a ∷ characters index (after ++ more)) (sym k)

no_lead : (b : ℕ) → b < 128 → is_lead b ≡ false
no_lead b h = grind (arith, nat_tests)

itself : (b : ℕ) → b < 128 → alone b ≡ Some b
itself b h = grind (arith, nat_tests)

pub ascii : (index : List ℕ) (b : ℕ) (all : List ℕ) → b < 128 → characters index (b ∷ all) ≡ Some b ∷ characters index all
ascii index b all h = one index b all (no_lead b h) ∙ ap (λ c. c ∷ characters index all) (itself b h)

two : (index : List ℕ) (lead trail : ℕ) (all : List ℕ) → is_lead lead ≡ true →
    characters index (lead ∷ trail ∷ all) ≡ character_or_error (of_two index lead trail) trail (characters index (trail ∷ all)) (characters index all)
unfolding characters
two index lead trail all h = rw h refl

pub pair : (index after others rest more : List ℕ) (lead trail : ℕ) (found c : Option ℕ) → is_lead lead ≡ true → after ≡ trail ∷ others → found ≡ of_two index lead trail →
    c ∷ characters index (rest ++ more) ≡ character_or_error found trail (characters index (after ++ more)) (characters index (others ++ more)) →
    characters index (lead ∷ (after ++ more)) ≡ c ∷ characters index (rest ++ more)
pair index after others rest more lead trail found c h next is gives =
    ap (λ b. characters index (lead ∷ (b ++ more))) next ∙ two index lead trail (others ++ more) h
    ∙ ap₂ (λ b t. character_or_error t trail (characters index (b ++ more)) (characters index (others ++ more))) (sym next) (sym is) ∙ sym gives

pub cut : (index after more : List ℕ) (lead : ℕ) → is_lead lead ≡ true → length after ≡ 0 → more ≡ [] → characters index (lead ∷ (after ++ more)) ≡ None ∷ characters index (after ++ more)
unfolding characters
cut index [] more lead h none last = ap (λ m. characters index (lead ∷ m)) last ∙ rw h refl ∙ ap (λ m. None ∷ characters index m) (sym last)
cut index (b ∷ bs) more lead h none last = absurd (omega arith)
