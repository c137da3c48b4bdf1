-- What is left of a text is shorter where a part of a mini selector was read.
use Rattle.std.proofs.Common.{◌≡◌, ℕ, ◌+◌, ◌<◌, ◌≤◌, List, [], ◌∷◌, length, drop, Bool, true, false, ◌||◌, refl, sym, ap, cond, nat_eq, Option, Some, None, arith, length-drop}
use Rattle.std.proofs.lemmas.Bool.{true≢false}
use Rattle.std.specs.Prelude.{is_some}
use Rattle.std.specs.List.{prefix_len}
use Rattle.dom_nodes.specs.Ascii.{right_bracket}
use Rattle.dom_selectors.specs.declared.syntax.Combinator.{Combinator}
use Rattle.dom_selectors.specs.Attributes.{SpellsOperator, operator_of}
use Rattle.dom_selectors.specs.declared.syntax.AttrOperator.TheVariants.{Equals}
use Rattle.dom_selectors.specs.Characters.{begins}
use Rattle.dom_selectors.specs.MiniLetters.{after_blanks, after_while, is_blank, is_word, isnt}
use Rattle.dom_selectors.specs.MiniSyntax.{is_some_of}
use Rattle.dom_selectors.specs.MiniGrammar.{Maybe, SpellsWord, SpellsMarked, SpellsId, SpellsClass, SpellsLead, SpellsQuoted, SpellsValue, SpellsTest, SpellsAttr, SpellsMini, SpellsStep, sign_at}
use Rattle.dom_selectors.specs.Spelling.{Many}
use Rattle.dom_selectors.specs.Strings.{is_quote}
use Rattle.dom_selectors.proofs.Runs.{Shortens}
use Rattle.dom_selectors.proofs.NameLemmas.{by_test}

pub after_le : (p : ℕ → Bool) (text : List ℕ) → length (after_while p text) ≤ length text
after_le p text = omega (arith, length-drop (prefix_len p text) text)

pub word_shortens : Shortens SpellsWord
word_shortens v [] r h = absurd (true≢false (sym h.0))
word_shortens v (c ∷ text) r h =
    let e : prefix_len is_word (c ∷ text) ≡ 1 + prefix_len is_word text = ap (λ b. cond b (1 + prefix_len is_word text) 0) h.0 in
    omega (arith, ap length h.2, length-drop (prefix_len is_word (c ∷ text)) (c ∷ text))

pub marked_shortens : (mark : ℕ) → Shortens (SpellsMarked mark)
marked_shortens mark v [] r h = absurd h
marked_shortens mark v (c ∷ more) r h = omega (arith, word_shortens v more r h.1)

pub class_shortens : Shortens SpellsClass
class_shortens v text r h = marked_shortens _ v text r h

sign_some : (text : List ℕ) (k : Combinator) → sign_at text ≡ Some k → 0 < length text
sign_some [] k e = cc
sign_some (c ∷ text) k e = omega arith

pub lead_shortens : Shortens SpellsLead
lead_shortens v text r h =
    let some = sign_some (after_blanks text) v h.0 in
    omega (arith, ap length h.1, after_le is_blank text, after_le is_blank (drop 1 (after_blanks text)), length-drop 1 (after_blanks text))

operator_shortens : Shortens SpellsOperator
operator_shortens v [] r h = absurd h
operator_shortens v (c ∷ more) r h =
    by_test (nat_eq c 61) ((v ≡ Equals) × (r ≡ more)) ((operator_of c ≡ Some v) × (more ≡ 61 ∷ r)) _ (λ _ p. omega (arith, ap length p.1)) (λ _ p. omega (arith, ap length p.1)) h

quoted_shortens : Shortens SpellsQuoted
quoted_shortens v [] r h = absurd h
quoted_shortens v (q ∷ inside) r h = omega (arith, ap length h.3, after_le (isnt q) inside)

value_le : (v text r : List ℕ) → SpellsValue v text r → length r ≤ length text
value_le v text r h = by_test (begins is_quote text) _ _ _ (λ _ p. omega (arith, quoted_shortens v text r p)) (λ _ p. omega (arith, ap length p.2, after_le (isnt right_bracket) text)) h

pub test_shortens : Shortens SpellsTest
test_shortens v text r h =
    omega (arith, operator_shortens v.0 (after_blanks text) h.after_operator h.operator, after_le is_blank text, after_le is_blank h.after_operator, value_le v.1 (after_blanks h.after_operator) r h.value)

module _ {A : Type 0} (S : A → List ℕ → List ℕ → Type 0) (shortens : Shortens S) where
  pub maybe_le : (v : Option A) (text r : List ℕ) → Maybe S v text r → length r ≤ length text
  maybe_le None text r h = omega (arith, ap length h.1)
  maybe_le (Some v) text r h = omega (arith, shortens v text r h)

  pub maybe_less : (v : Option A) (text r : List ℕ) → Maybe S v text r → is_some v ≡ true → length r < length text
  maybe_less None text r h some = absurd (true≢false (sym some))
  maybe_less (Some v) text r h some = shortens v text r h

  pub many_le : (vs : List A) (text r : List ℕ) → Many S vs text r → length r ≤ length text
  many_le [] text r h = omega (arith, ap length h)
  many_le (v ∷ vs) text r h = omega (arith, shortens v text h.0 h.1, many_le vs h.0 r h.2)

  pub many_less : (vs : List A) (text r : List ℕ) → Many S vs text r → is_some_of vs ≡ true → length r < length text
  many_less [] text r h some = absurd (true≢false (sym some))
  many_less (v ∷ vs) text r h some = omega (arith, shortens v text h.0 h.1, many_le vs h.0 r h.2)

pub attr_shortens : Shortens SpellsAttr
attr_shortens v text r h =
    omega (arith, ap length h.opens, word_shortens v.key h.inside h.after_key h.key, maybe_le SpellsTest test_shortens v.test h.after_key (right_bracket ∷ r) h.test)

id_shortens : Shortens SpellsId
id_shortens v text r h = marked_shortens _ v text r h

five : (a b c d e : Bool) (P : Type 0) → (a || b || c || d || e) ≡ true → (a ≡ true → P) → (b ≡ true → P) → (c ≡ true → P) → (d ≡ true → P) → (e ≡ true → P) → P
five true b c d e P h f g i j k = f refl
five false true c d e P h f g i j k = g refl
five false false true d e P h f g i j k = i refl
five false false false true e P h f g i j k = j refl
five false false false false true P h f g i j k = k refl
five false false false false false P h f g i j k = absurd (true≢false (sym h))

pub mini_shortens : Shortens SpellsMini
mini_shortens v text r h =
    let front = h.front in
    let lead = maybe_le SpellsLead lead_shortens v.lead text front.after_lead front.leads in
    let name = maybe_le SpellsWord word_shortens v.name front.after_lead front.after_name front.names in
    let id = maybe_le SpellsId id_shortens v.id front.after_name front.after_id front.ids in
    let classes = many_le SpellsClass class_shortens v.classes front.after_id h.after_front front.marks.each in
    let attrs = many_le SpellsAttr attr_shortens v.attrs h.after_front r h.attrs.each in
    five (is_some v.lead) (is_some v.name) (is_some v.id) (is_some_of v.classes) (is_some_of v.attrs) (length r < length text) h.some
    (λ e. omega (arith, lead, name, id, classes, attrs, maybe_less SpellsLead lead_shortens v.lead text front.after_lead front.leads e))
    (λ e. omega (arith, lead, name, id, classes, attrs, maybe_less SpellsWord word_shortens v.name front.after_lead front.after_name front.names e))
    (λ e. omega (arith, lead, name, id, classes, attrs, maybe_less SpellsId id_shortens v.id front.after_name front.after_id front.ids e))
    (λ e. omega (arith, lead, name, id, classes, attrs, many_less SpellsClass class_shortens v.classes front.after_id h.after_front front.marks.each e))
    (λ e. omega (arith, lead, name, id, classes, attrs, many_less SpellsAttr attr_shortens v.attrs h.after_front r h.attrs.each e))

pub step_shortens : Shortens SpellsStep
step_shortens v text r h =
    omega (arith, mini_shortens v (after_blanks text) h.0 h.1, after_le is_blank text, after_le is_blank h.0, ap length h.2)
