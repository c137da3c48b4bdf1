-- What the first bytes of a text give, whatever follows.
use Rattle.std.proofs.Common.{◌≡◌, ℕ, ◌<◌, List, [], ◌∷◌, ◌++◌, true, false, refl, sym, ap, ap₂, ◌∙◌, length, arith, Option, Some, None}
use Rattle.std.proofs.lemmas.Bool.Decides.{nat_tests}
use Rattle.decoded_text.specs.Characters.{character_or_error}
use Rattle.gb18030.specs.Decoding.{alone, characters, is_digit, is_lead, of_two, of_four}

module _ (index firsts codes : List ℕ) where
  abbrev chars : List ℕ → List (Option ℕ)
  chars bytes = characters index firsts codes bytes

  one : (first : ℕ) (all : List ℕ) → is_lead first ≡ false → chars (first ∷ all) ≡ alone first ∷ chars all
  unfolding characters
  one first [] h = rw h refl
  one first (a ∷ []) h = rw h refl
  one first (a ∷ b ∷ []) h = rw h refl
  one first (a ∷ b ∷ c ∷ rest) h = rw h refl

  pub step_one : (bytes after more : List ℕ) (first : ℕ) (c : Option ℕ) → bytes ≡ first ∷ after → is_lead first ≡ false → c ≡ alone first → chars (bytes ++ more) ≡ c ∷ chars (after ++ more)
  step_one bytes after more first c is h k =
      ap (λ b. chars (b ++ more)) is ∙ one first (after ++ more) h ∙ ap (λ a. a ∷ chars (after ++ more)) (sym k)

  no_lead : (b : ℕ) → b < 128 → is_lead b ≡ false
  no_lead b h = grind (arith, nat_tests)

  itself : (b : ℕ) → b < 128 → alone b ≡ Some b
  itself b h = grind (arith, nat_tests)

  pub ascii : (b : ℕ) (all : List ℕ) → b < 128 → chars (b ∷ all) ≡ Some b ∷ chars all
  ascii b all h = one b all (no_lead b h) ∙ ap (λ c. c ∷ chars all) (itself b h)

  two : (first second : ℕ) (all : List ℕ) → is_lead first ≡ true → is_digit second ≡ false →
      chars (first ∷ second ∷ all) ≡ character_or_error (of_two index first second) second (chars (second ∷ all)) (chars all)
  unfolding characters
  two first second [] h k = rw (h, k) refl
  two first second (a ∷ []) h k = rw (h, k) refl
  two first second (a ∷ b ∷ rest) h k = rw (h, k) refl

  pub pair : (after others rest more : List ℕ) (first second : ℕ) (found c : Option ℕ) → is_lead first ≡ true → is_digit second ≡ false → after ≡ second ∷ others → found ≡ of_two index first second →
      c ∷ chars (rest ++ more) ≡ character_or_error found second (chars (after ++ more)) (chars (others ++ more)) → chars (first ∷ (after ++ more)) ≡ c ∷ chars (rest ++ more)
  pair after others rest more first second found c h k next is gives =
      ap (λ b. chars (first ∷ (b ++ more))) next ∙ two first second (others ++ more) h k
      ∙ ap₂ (λ b t. character_or_error t second (chars (b ++ more)) (chars (others ++ more))) (sym next) (sym is) ∙ sym gives

  pub cut_one : (after more : List ℕ) (first : ℕ) → is_lead first ≡ true → length after ≡ 0 → more ≡ [] → chars (first ∷ (after ++ more)) ≡ None ∷ chars (after ++ more)
  unfolding characters
  cut_one [] more first h none last = ap (λ m. chars (first ∷ m)) last ∙ rw h refl ∙ ap (λ m. None ∷ chars m) (sym last)
  cut_one (b ∷ bs) more first h none last = absurd (omega arith)

  pub cut_two : (after others more : List ℕ) (first second : ℕ) → is_lead first ≡ true → is_digit second ≡ true → after ≡ second ∷ others → length others ≡ 0 → more ≡ [] →
      chars (first ∷ (after ++ more)) ≡ None ∷ chars (others ++ more)
  unfolding characters
  cut_two after [] more first second h k next none last =
      ap (λ b. chars (first ∷ (b ++ more))) next ∙ ap (λ m. chars (first ∷ second ∷ m)) last ∙ rw (h, k) refl ∙ ap (λ m. None ∷ chars m) (sym last)
  cut_two after (b ∷ bs) more first second h k next none last = absurd (omega arith)

  pub cut_three : (after others rest more : List ℕ) (first second third : ℕ) → is_lead first ≡ true → is_digit second ≡ true → is_lead third ≡ true →
      after ≡ second ∷ others → others ≡ third ∷ rest → length rest ≡ 0 → more ≡ [] → chars (first ∷ (after ++ more)) ≡ None ∷ chars (rest ++ more)
  unfolding characters
  cut_three after others [] more first second third h k l next then none last =
      ap (λ b. chars (first ∷ (b ++ more))) (next ∙ ap (λ b. second ∷ b) then) ∙ ap (λ m. chars (first ∷ second ∷ third ∷ m)) last ∙ rw (h, k, l) refl
      ∙ ap (λ m. None ∷ chars m) (sym last)
  cut_three after others (b ∷ bs) more first second third h k l next then none last = absurd (omega arith)

  third_wrong : (first second third : ℕ) (all : List ℕ) → is_lead first ≡ true → is_digit second ≡ true → is_lead third ≡ false →
      chars (first ∷ second ∷ third ∷ all) ≡ None ∷ chars (second ∷ third ∷ all)
  unfolding characters
  third_wrong first second third [] h k l = rw (h, k, l) refl
  third_wrong first second third (a ∷ rest) h k l = rw (h, k, l) refl

  pub at_third : (after others rest more : List ℕ) (first second third : ℕ) → is_lead first ≡ true → is_digit second ≡ true → is_lead third ≡ false →
      after ≡ second ∷ others → others ≡ third ∷ rest → chars (first ∷ (after ++ more)) ≡ None ∷ chars (after ++ more)
  at_third after others rest more first second third h k l next then =
      let is : after ≡ second ∷ third ∷ rest = next ∙ ap (λ b. second ∷ b) then in
      ap (λ b. chars (first ∷ (b ++ more))) is ∙ third_wrong first second third (rest ++ more) h k l ∙ ap (λ b. None ∷ chars (b ++ more)) (sym is)

  fourth_wrong : (first second third fourth : ℕ) (all : List ℕ) → is_lead first ≡ true → is_digit second ≡ true → is_lead third ≡ true → is_digit fourth ≡ false →
      chars (first ∷ second ∷ third ∷ fourth ∷ all) ≡ None ∷ chars (second ∷ third ∷ fourth ∷ all)
  unfolding characters
  fourth_wrong first second third fourth all h k l m = rw (h, k, l, m) refl

  pub at_fourth : (after others from_fourth rest more : List ℕ) (first second third fourth : ℕ) → is_lead first ≡ true → is_digit second ≡ true → is_lead third ≡ true → is_digit fourth ≡ false →
      after ≡ second ∷ others → others ≡ third ∷ from_fourth → from_fourth ≡ fourth ∷ rest → chars (first ∷ (after ++ more)) ≡ None ∷ chars (after ++ more)
  at_fourth after others from_fourth rest more first second third fourth h k l m next then last =
      let is : after ≡ second ∷ third ∷ fourth ∷ rest = next ∙ ap (λ b. second ∷ b) (then ∙ ap (λ b. third ∷ b) last) in
      ap (λ b. chars (first ∷ (b ++ more))) is ∙ fourth_wrong first second third fourth (rest ++ more) h k l m ∙ ap (λ b. None ∷ chars (b ++ more)) (sym is)

  all_four : (first second third fourth : ℕ) (all : List ℕ) → is_lead first ≡ true → is_digit second ≡ true → is_lead third ≡ true → is_digit fourth ≡ true →
      chars (first ∷ second ∷ third ∷ fourth ∷ all) ≡ of_four firsts codes first second third fourth ∷ chars all
  unfolding characters
  all_four first second third fourth all h k l m = rw (h, k, l, m) refl

  pub four_bytes : (after others from_fourth rest more : List ℕ) (first second third fourth : ℕ) (c : Option ℕ) → is_lead first ≡ true → is_digit second ≡ true → is_lead third ≡ true → is_digit fourth ≡ true →
      after ≡ second ∷ others → others ≡ third ∷ from_fourth → from_fourth ≡ fourth ∷ rest → c ≡ of_four firsts codes first second third fourth →
      chars (first ∷ (after ++ more)) ≡ c ∷ chars (rest ++ more)
  four_bytes after others from_fourth rest more first second third fourth c h k l m next then last found =
      let is : after ≡ second ∷ third ∷ fourth ∷ rest = next ∙ ap (λ b. second ∷ b) (then ∙ ap (λ b. third ∷ b) last) in
      ap (λ b. chars (first ∷ (b ++ more))) is ∙ all_four first second third fourth (rest ++ more) h k l m ∙ ap (λ t. t ∷ chars (rest ++ more)) (sym found)
