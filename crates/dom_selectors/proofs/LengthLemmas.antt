-- What follows an item, a step or a comma's selector is shorter than the text.
use Rattle.std.proofs.Common.{◌≡◌, ℕ, ◌+◌, ◌<◌, List, [], ◌∷◌, length, drop, Bool, true, false, ◌&&◌, cond, nat_eq, refl, sym, ap, true≢false, length-drop, arith, ⊎_elim}
use Rattle.std.specs.Char.{is_ascii_whitespace}
use Rattle.std.specs.List.{prefix_len}
use Rattle.std.proofs.lemmas.Bool.{or_cases}
use Rattle.std.proofs.lemmas.Bool.Decides.{when_true}
use Rattle.dom_selectors.specs.declared.syntax.ParseContext.{ParseContext}
use Rattle.dom_selectors.specs.Characters.{after_white, begins}
use Rattle.dom_selectors.specs.Grammar.{SpellsItem, is_combinator, SpellsCombinator, SpellsStep, begins_compound, SpellsLater, SpellsInner}
use Rattle.dom_selectors.proofs.Runs.{Shortens}
use Rattle.dom_selectors.proofs.KeepLemmas.{length_grows, inner_keeps, item_rest, combinator_keeps, compound_keeps, selector_keeps, white_keeps}

-- behind a sign it is shorter
sign_shortens : (v : _) (text r : List ℕ) → begins is_combinator text ≡ true → SpellsCombinator v text r → length r < length text
sign_shortens v [] r e h = absurd h
sign_shortens v (c ∷ more) r e h = let p = when_true _ _ e h in let is = ap length p.1 in let le = white_keeps length length_grows more in omega arith

white_shortens : (text : List ℕ) → begins is_ascii_whitespace text ≡ true → length (after_white text) < length text
white_shortens [] e = absurd (true≢false (sym e))
white_shortens (c ∷ text) e =
    let is : prefix_len is_ascii_whitespace (c ∷ text) ≡ 1 + prefix_len is_ascii_whitespace text = ap (λ b. cond b (1 + prefix_len is_ascii_whitespace text) 0) e in
    let long = length-drop (prefix_len is_ascii_whitespace (c ∷ text)) (c ∷ text) in
    omega arith

and_first : (a b : Bool) → (a && b) ≡ true → a ≡ true
and_first true b e = refl
and_first false b e = e

comma_shortens : (text : List ℕ) → begins (λ c. nat_eq c 44) text ≡ true → length (drop 1 text) < length text
comma_shortens [] e = absurd (true≢false (sym e))
comma_shortens (c ∷ text) e = omega arith

module _ (context : ParseContext) where
  pub item_shortens : Shortens (SpellsItem context (SpellsInner context))
  item_shortens v [] r h = absurd h
  item_shortens v (c ∷ more) r h = let le = item_rest length length_grows context (SpellsInner context) (inner_keeps length length_grows context) v c more r h in omega arith

  pub step_shortens : Shortens (SpellsStep context (SpellsInner context))
  step_shortens v text r h =
      let d = compound_keeps length length_grows context (SpellsInner context) (inner_keeps length length_grows context) v.1 h.mid r h.compound in
      ⊎_elim (λ e. let a = white_keeps length length_grows text in let b = sign_shortens v.0 (after_white text) h.mid e h.combinator in omega arith)
      (λ e. let a = white_shortens text (and_first (begins is_ascii_whitespace text) (begins_compound (after_white text)) e) in let b = combinator_keeps length length_grows v.0 (after_white text) h.mid h.combinator in omega arith)
      (or_cases _ _ h.on)

  pub later_shortens : Shortens (SpellsLater context (SpellsInner context))
  later_shortens v text r h =
      let a = white_keeps length length_grows text in
      let b = comma_shortens (after_white text) h.comma in
      let d = white_keeps length length_grows (drop 1 (after_white text)) in
      let e = selector_keeps length length_grows context (SpellsInner context) (inner_keeps length length_grows context) v _ r h.selector in
      omega arith
