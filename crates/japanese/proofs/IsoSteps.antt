-- What the first bytes of a text in ISO-2022-JP give, whatever follows.
use Rattle.std.proofs.Common.{◌≡◌, ℕ, ◌<◌, List, [], ◌∷◌, ◌++◌, Bool, true, false, cond, ◌==◌, eq-eqb, length, refl, sym, ap, ◌∙◌, arith, Option, Some, None}
use Rattle.std.proofs.lemmas.Bool.Decides.{nat_tests}
use Rattle.japanese.specs.declared.iso_2022_jp.Mode.{Mode}
use Rattle.japanese.specs.declared.iso_2022_jp.Mode.TheVariants.{Ascii, Roman, Katakana, Jis0208}
use Rattle.japanese.specs.declared.iso_2022_jp.State.{State}
use Rattle.japanese.specs.Iso2022Jp.{after_escape, characters, escaped, in_mode, is_lead, of_two, plain, target}

-- no mode has an escape as the first of two bytes
lead_other : (mode : Mode) (first : ℕ) → is_lead mode first ≡ true → (first == 27) ≡ false
lead_other Jis0208 first h = grind (arith, nat_tests)
lead_other Ascii first h = cc
lead_other Roman first h = cc
lead_other Katakana first h = cc

module _ (index : List ℕ) where
  abbrev chars : State → List ℕ → List (Option ℕ)
  chars state bytes = characters index state bytes

  byte : (state : State) (first : ℕ) (all : List ℕ) → (first == 27) ≡ false → is_lead state.mode first ≡ false → chars state (first ∷ all) ≡ in_mode state.mode first ∷ chars (plain state) all
  unfolding characters
  byte state first [] h k = rw (h, k) refl
  byte state first (a ∷ []) h k = rw (h, k) refl
  byte state first (a ∷ b ∷ rest) h k = rw (h, k) refl

  other : (first : ℕ) → (first ≡ 27 → ⊥) → (first == 27) ≡ false
  other first h = grind (arith, nat_tests)

  pub step_byte : (state behind_state : State) (bytes behind more : List ℕ) (first : ℕ) (lead : Bool) (c : Option ℕ) → bytes ≡ first ∷ behind → (first ≡ 27 → ⊥) → lead ≡ is_lead state.mode first → lead ≡ false →
      c ≡ in_mode state.mode first → behind_state ≡ plain state → chars state (bytes ++ more) ≡ c ∷ chars behind_state (behind ++ more)
  step_byte state behind_state bytes behind more first lead c is h l k found then =
      ap (λ b. chars state (b ++ more)) is ∙ byte state first (behind ++ more) (other first h) (sym l ∙ k)
      ∙ ap (λ t. t ∷ chars (plain state) (behind ++ more)) (sym found) ∙ ap (λ s. c ∷ chars s (behind ++ more)) (sym then)

  escape_is : (state : State) (a b : ℕ) (all : List ℕ) →
      chars state (27 ∷ a ∷ b ∷ all) ≡ after_escape (target a b) state.is_escaped (λ mode. chars (escaped mode) all) (chars (plain state) (a ∷ b ∷ all))
  unfolding characters
  escape_is state a b all = refl

  escape_at : (state : State) (behind others rest more : List ℕ) (a b : ℕ) (found : Option Mode) → behind ≡ a ∷ others → others ≡ b ∷ rest → found ≡ target a b →
      chars state (27 ∷ (behind ++ more)) ≡ after_escape found state.is_escaped (λ mode. chars (escaped mode) (rest ++ more)) (chars (plain state) (a ∷ b ∷ (rest ++ more)))
  escape_at state behind others rest more a b found next then is =
      ap (λ r. chars state (27 ∷ (r ++ more))) (next ∙ ap (λ r. a ∷ r) then) ∙ escape_is state a b (rest ++ more)
      ∙ ap (λ t. after_escape t state.is_escaped (λ mode. chars (escaped mode) (rest ++ more)) (chars (plain state) (a ∷ b ∷ (rest ++ more)))) (sym is)

  pub escape_none : (state after : State) (behind others rest more : List ℕ) (a b : ℕ) → behind ≡ a ∷ others → others ≡ b ∷ rest → None ≡ target a b → after ≡ plain state →
      chars state (27 ∷ (behind ++ more)) ≡ None ∷ chars after (behind ++ more)
  escape_none state after behind others rest more a b next then is s =
      escape_at state behind others rest more a b None next then is ∙ ap (λ r. None ∷ chars (plain state) (r ++ more)) (sym (next ∙ ap (λ r. a ∷ r) then))
      ∙ ap (λ s. None ∷ chars s (behind ++ more)) (sym s)

  pub escape_again : (state : State) (behind others rest more : List ℕ) (a b : ℕ) (mode : Mode) → behind ≡ a ∷ others → others ≡ b ∷ rest → Some mode ≡ target a b → state.is_escaped ≡ true →
      chars state (27 ∷ (behind ++ more)) ≡ None ∷ chars (escaped mode) (rest ++ more)
  escape_again state behind others rest more a b mode next then is e =
      escape_at state behind others rest more a b (Some mode) next then is
      ∙ ap (λ t. cond t (None ∷ chars (escaped mode) (rest ++ more)) (chars (escaped mode) (rest ++ more))) e

  pub escape_first : (state : State) (behind others rest more : List ℕ) (a b : ℕ) (mode : Mode) → behind ≡ a ∷ others → others ≡ b ∷ rest → Some mode ≡ target a b → state.is_escaped ≡ false →
      chars state (27 ∷ (behind ++ more)) ≡ chars (escaped mode) (rest ++ more)
  escape_first state behind others rest more a b mode next then is e =
      escape_at state behind others rest more a b (Some mode) next then is
      ∙ ap (λ t. cond t (None ∷ chars (escaped mode) (rest ++ more)) (chars (escaped mode) (rest ++ more))) e

  pub escape_cut : (state after : State) (behind more : List ℕ) → length behind < 2 → more ≡ [] → after ≡ plain state → chars state (27 ∷ (behind ++ more)) ≡ None ∷ chars after (behind ++ more)
  unfolding characters
  escape_cut state after [] more h last s = ap (λ m. chars state (27 ∷ m)) last ∙ ap (λ m. None ∷ chars after m) (sym last)
  escape_cut state after (a ∷ []) more h last s =
      ap (λ m. chars state (27 ∷ a ∷ m)) last ∙ ap (λ s. None ∷ chars s (a ∷ [])) (sym s) ∙ ap (λ m. None ∷ chars after (a ∷ m)) (sym last)
  escape_cut state after (a ∷ b ∷ rest) more h last s = absurd (omega arith)

  lead_is : (state : State) (first second : ℕ) (all : List ℕ) → (first == 27) ≡ false → is_lead state.mode first ≡ true →
      chars state (first ∷ second ∷ all) ≡ cond (second == 27) (None ∷ chars (plain state) (second ∷ all)) (of_two index first second ∷ chars (plain state) all)
  unfolding characters
  lead_is state first second [] h k = rw (h, k) refl
  lead_is state first second (a ∷ rest) h k = rw (h, k) refl

  pub lead_at : (state after : State) (behind others more : List ℕ) (first second : ℕ) (c : Option ℕ) → is_lead state.mode first ≡ true → behind ≡ second ∷ others → (second ≡ 27 → ⊥) →
      c ≡ of_two index first second → after ≡ plain state → chars state (first ∷ (behind ++ more)) ≡ c ∷ chars after (others ++ more)
  lead_at state after behind others more first second c h next k found s =
      ap (λ b. chars state (first ∷ (b ++ more))) next ∙ lead_is state first second (others ++ more) (lead_other state.mode first h) h
      ∙ ap (λ t. cond t (None ∷ chars (plain state) (second ∷ (others ++ more))) (of_two index first second ∷ chars (plain state) (others ++ more))) (other second k)
      ∙ ap (λ t. t ∷ chars (plain state) (others ++ more)) (sym found) ∙ ap (λ s. c ∷ chars s (others ++ more)) (sym s)

  pub lead_escape : (state after : State) (behind others more : List ℕ) (first second : ℕ) → is_lead state.mode first ≡ true → behind ≡ second ∷ others → second ≡ 27 → after ≡ plain state →
      chars state (first ∷ (behind ++ more)) ≡ None ∷ chars after (behind ++ more)
  lead_escape state after behind others more first second h next k s =
      ap (λ b. chars state (first ∷ (b ++ more))) next ∙ lead_is state first second (others ++ more) (lead_other state.mode first h) h
      ∙ ap (λ t. cond t (None ∷ chars (plain state) (second ∷ (others ++ more))) (of_two index first second ∷ chars (plain state) (others ++ more))) (eq-eqb second 27 k)
      ∙ ap (λ b. None ∷ chars (plain state) (b ++ more)) (sym next) ∙ ap (λ s. None ∷ chars s (behind ++ more)) (sym s)

  pub lead_cut : (state after : State) (behind more : List ℕ) (first : ℕ) → is_lead state.mode first ≡ true → length behind ≡ 0 → more ≡ [] → after ≡ plain state →
      chars state (first ∷ (behind ++ more)) ≡ None ∷ chars after (behind ++ more)
  unfolding characters
  lead_cut state after [] more first h none last s =
      let k : (first == 27) ≡ false = lead_other state.mode first h in
      ap (λ m. chars state (first ∷ m)) last ∙ rw (k, h) refl ∙ ap (λ m. None ∷ chars after m) (sym last)
  lead_cut state after (b ∷ bs) more first h none last s = absurd (omega arith)
