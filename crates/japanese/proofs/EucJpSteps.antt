-- What the first bytes of a text in EUC-JP give, whatever follows.
use Rattle.std.proofs.Common.{◌≡◌, ℕ, ◌<◌, List, [], ◌∷◌, ◌++◌, true, false, refl, sym, ap, ap₂, ◌∙◌, length, arith, Option, Some, None}
use Rattle.std.proofs.lemmas.Bool.Decides.{nat_tests}
use Rattle.decoded_text.specs.Characters.{character_or_error}
use Rattle.japanese.specs.EucJp.{alone, characters, is_lead, is_three, of_cell, of_two}

module _ (jis0208 jis0212 : List ℕ) where
  abbrev chars : List ℕ → List (Option ℕ)
  chars bytes = characters jis0208 jis0212 bytes

  one : (lead : ℕ) (all : List ℕ) → is_lead lead ≡ false → chars (lead ∷ all) ≡ alone lead ∷ chars all
  unfolding characters
  one lead [] h = rw h refl
  one lead (a ∷ []) h = rw h refl
  one lead (a ∷ b ∷ rest) h = rw h refl

  pub step_one : (bytes behind more : List ℕ) (lead : ℕ) (c : Option ℕ) → bytes ≡ lead ∷ behind → is_lead lead ≡ false → c ≡ alone lead → chars (bytes ++ more) ≡ c ∷ chars (behind ++ more)
  step_one bytes behind more lead c is h k =
      ap (λ b. chars (b ++ more)) is ∙ one lead (behind ++ more) h ∙ ap (λ a. a ∷ chars (behind ++ more)) (sym k)

  no_lead : (b : ℕ) → b < 128 → is_lead b ≡ false
  no_lead b h = grind (arith, nat_tests)

  itself : (b : ℕ) → b < 128 → alone b ≡ Some b
  itself b h = grind (arith, nat_tests)

  pub ascii : (b : ℕ) (all : List ℕ) → b < 128 → chars (b ∷ all) ≡ Some b ∷ chars all
  ascii b all h = one b all (no_lead b h) ∙ ap (λ c. c ∷ chars all) (itself b h)

  two : (lead trail : ℕ) (all : List ℕ) → is_lead lead ≡ true → is_three lead trail ≡ false →
      chars (lead ∷ trail ∷ all) ≡ character_or_error (of_two jis0208 lead trail) trail (chars (trail ∷ all)) (chars all)
  unfolding characters
  two lead trail [] h k = rw (h, k) refl
  two lead trail (a ∷ rest) h k = rw (h, k) refl

  pub pair : (behind others rest more : List ℕ) (lead trail : ℕ) (found c : Option ℕ) → is_lead lead ≡ true → is_three lead trail ≡ false → behind ≡ trail ∷ others → found ≡ of_two jis0208 lead trail →
      c ∷ chars (rest ++ more) ≡ character_or_error found trail (chars (behind ++ more)) (chars (others ++ more)) → chars (lead ∷ (behind ++ more)) ≡ c ∷ chars (rest ++ more)
  pair behind others rest more lead trail found c h k next is gives =
      ap (λ b. chars (lead ∷ (b ++ more))) next ∙ two lead trail (others ++ more) h k
      ∙ ap₂ (λ b t. character_or_error t trail (chars (b ++ more)) (chars (others ++ more))) (sym next) (sym is) ∙ sym gives

  pub cut_one : (behind more : List ℕ) (lead : ℕ) → is_lead lead ≡ true → length behind ≡ 0 → more ≡ [] → chars (lead ∷ (behind ++ more)) ≡ None ∷ chars (behind ++ more)
  unfolding characters
  cut_one [] more lead h none last = ap (λ m. chars (lead ∷ m)) last ∙ rw h refl ∙ ap (λ m. None ∷ chars m) (sym last)
  cut_one (b ∷ bs) more lead h none last = absurd (omega arith)

  pub cut_two : (behind others more : List ℕ) (lead trail : ℕ) → is_lead lead ≡ true → is_three lead trail ≡ true → behind ≡ trail ∷ others → length others ≡ 0 → more ≡ [] →
      chars (lead ∷ (behind ++ more)) ≡ None ∷ chars (others ++ more)
  unfolding characters
  cut_two behind [] more lead trail h k next none last =
      ap (λ b. chars (lead ∷ (b ++ more))) next ∙ ap (λ m. chars (lead ∷ trail ∷ m)) last ∙ rw (h, k) refl ∙ ap (λ m. None ∷ chars m) (sym last)
  cut_two behind (b ∷ bs) more lead trail h k next none last = absurd (omega arith)

  all_three : (lead trail third : ℕ) (all : List ℕ) → is_lead lead ≡ true → is_three lead trail ≡ true →
      chars (lead ∷ trail ∷ third ∷ all) ≡ character_or_error (of_cell jis0212 trail third) third (chars (third ∷ all)) (chars all)
  unfolding characters
  all_three lead trail third all h k = rw (h, k) refl

  pub three : (behind others after rest more : List ℕ) (lead trail third : ℕ) (found c : Option ℕ) → is_lead lead ≡ true → is_three lead trail ≡ true → behind ≡ trail ∷ others → others ≡ third ∷ after →
      found ≡ of_cell jis0212 trail third → c ∷ chars (rest ++ more) ≡ character_or_error found third (chars (others ++ more)) (chars (after ++ more)) →
      chars (lead ∷ (behind ++ more)) ≡ c ∷ chars (rest ++ more)
  three behind others after rest more lead trail third found c h k next then is gives =
      ap (λ b. chars (lead ∷ (b ++ more))) (next ∙ ap (λ b. trail ∷ b) then) ∙ all_three lead trail third (after ++ more) h k
      ∙ ap₂ (λ b t. character_or_error t third (chars (b ++ more)) (chars (after ++ more))) (sym then) (sym is) ∙ sym gives
