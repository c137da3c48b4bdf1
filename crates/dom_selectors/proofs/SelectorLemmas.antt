-- Selectors have one reading, if the lists between their parentheses have.
use Rattle.std.proofs.Common.{◌≡◌, ℕ, zero, suc, List, [], ◌∷◌, ◌++◌, Bool, true, false, ◌||◌, nat_eq, drop, Option, None, Some, MatchOption, sym, ap, ◌∙◌, subst, arith}
use Rattle.std.proofs.lemmas.Bool.Decides.{nat_tests}
use Rattle.dom_selectors.specs.declared.syntax.Combinator.{Combinator}
use Rattle.dom_selectors.specs.declared.syntax.Part.{Part}
use Rattle.dom_selectors.specs.declared.syntax.Part.TheVariants.{Id, Class, Attribute, Position}
use Rattle.dom_selectors.specs.declared.syntax.Combinator.TheVariants.{Descendant}
use Rattle.dom_selectors.specs.declared.syntax.ParseContext.{ParseContext}
use Rattle.dom_selectors.specs.declared.syntax.Pseudo.{Pseudo}
use Rattle.dom_selectors.specs.Spelling.{Run}
use Rattle.dom_selectors.specs.Characters.{after_white, begins}
use Rattle.dom_selectors.specs.Names.{SpellsName, starts_name}
use Rattle.dom_selectors.specs.Syntax.{CompoundSelector, compound, SelectorList, Steps}
use Rattle.dom_selectors.specs.ListsAsTrees.{simple, listed, parts_among, lists_among, steps_of, selector_list}
use Rattle.dom_selectors.specs.Grammar.{StandsFor, Opens, SpellsEnclosed, SpellsLead, SpellsWithin, combinator_of, whole, SpellsForm, SpellsPseudo, SpellsItem, begins_item, is_star, SpellsType, SpellsCompound, is_combinator, SpellsCombinator, SpellsStep, begins_step, SpellsSelector, begins_comma, SpellsLater, SpellsList, SpellsInner}
use Rattle.dom_selectors.proofs.Runs.{IsOnce, GoesOn, run_once}
use Rattle.dom_selectors.proofs.NameLemmas.{both, by_test, name_once}
use Rattle.dom_selectors.specs.Nth.{SpellsNth}
use Rattle.dom_selectors.specs.Strings.{SpellsString}
use Rattle.dom_selectors.specs.Pseudos.{is_relative, quantified, text_part}
use Rattle.dom_selectors.proofs.NthLemmas.{nth_once}
use Rattle.dom_selectors.proofs.StringLemmas.{string_once}
use Rattle.dom_selectors.proofs.AttributeLemmas.{attribute_once}

-- what is spelled as another thing is, and made into a value
pub made_once : {A V : Type 0} (S : A → List ℕ → List ℕ → Type 0) → IsOnce S → (make : A → V) (v w : V) (text r s : List ℕ) →
    ((a : A) × S a text r × (v ≡ make a)) → ((a : A) × S a text s × (w ≡ make a)) → (v ≡ w) × (r ≡ s)
made_once S once make v w text r s h k = let same = once h.0 k.0 text r s h.1 k.1 in (h.2 ∙ ap make same.0 ∙ sym k.2, same.1)

pub type_once : IsOnce SpellsType
type_once v w text r s h k =
    both (begins is_star text) _ _ _ _ _ (λ _ p q. (p.0 ∙ sym q.0, p.1 ∙ sym q.1))
    (λ _ p q. both (starts_name text) _ _ _ _ _ (λ _ x y. made_once SpellsName name_once (λ n. Part.«Type» n ∷ []) v w text r s x y) (λ _ x y. (x.0 ∙ sym y.0, x.1 ∙ sym y.1)) p q) h k

pub combinator_once : IsOnce SpellsCombinator
combinator_once v w [] r s h k = absurd h
combinator_once v w (c ∷ more) r s h k =
    both (is_combinator c) _ _ _ _ _ (λ _ p q. let a = p.0 in let b = q.0 in let same : v ≡ w = cc in (same, p.1 ∙ sym q.1)) (λ _ p q. (p.0 ∙ sym q.0, p.1 ∙ sym q.1)) h k

pub opens_once : (depth : ℕ) (text r s : List ℕ) → Opens depth text r → Opens depth text s → r ≡ s
opens_once depth text r s h k =
    let opens_h = h.opens in
    let opens_k = k.opens in
    let inside : h.inside ≡ k.inside = cc in
    h.skipped ∙ ap after_white inside ∙ sym k.skipped

pub enclosed_once : (depth : ℕ) {A : Type 0} (S : A → List ℕ → List ℕ → Type 0) → IsOnce S → IsOnce (SpellsEnclosed depth S)
enclosed_once depth {A} S once v w text r s h k =
    let inside = opens_once depth text h.inside k.inside h.opens k.opens in
    let same = once v w h.inside h.after k.after h.value (subst (λ t. S w t k.after) (sym inside) k.value) in
    let after = same.1 in
    let closes_h = h.closes in
    let closes_k = k.closes in
    let rest : r ≡ s = cc in
    (same.0, rest)

led_once : (o : Option Combinator) (text end : List ℕ) (v w : Combinator) (r s : List ℕ) →
    MatchOption o ((v ≡ Descendant) × (r ≡ text)) (λ k. (v ≡ k) × (r ≡ end)) → MatchOption o ((w ≡ Descendant) × (s ≡ text)) (λ k. (w ≡ k) × (s ≡ end)) → (v ≡ w) × (r ≡ s)
led_once None text end v w r s h k = (h.0 ∙ sym k.0, h.1 ∙ sym k.1)
led_once (Some c) text end v w r s h k = (h.0 ∙ sym k.0, h.1 ∙ sym k.1)

pub lead_once : (relative : Bool) → IsOnce (SpellsLead relative)
lead_once false v w text r s h k = (h.0 ∙ sym k.0, h.1 ∙ sym k.1)
lead_once true v w [] r s h k = (h.0 ∙ sym k.0, h.1 ∙ sym k.1)
lead_once true v w (c ∷ more) r s h k = led_once (combinator_of c) (c ∷ more) (after_white more) v w r s h k

module _ (context : ParseContext) (Inner : Bool → SelectorList → List ℕ → List ℕ → Type 0) (inner_once : (relative : Bool) → IsOnce (Inner relative)) where
  pub form_once : (pseudo : Pseudo) → IsOnce (SpellsForm context Inner pseudo)
  form_once (Pseudo.Plain bare) v w text r s h k = (h.1 ∙ sym k.1, h.2 ∙ sym k.2)
  form_once (Pseudo.Listed q) v w text r s h k =
      made_once (SpellsEnclosed context.depth (Inner (is_relative q))) (enclosed_once context.depth (Inner (is_relative q)) (inner_once (is_relative q))) (λ l. listed (quantified q l)) v w text r s (h.1, h.2, h.3) (k.1, k.2, k.3)
  form_once (Pseudo.Nth kind) v w text r s h k =
      made_once (SpellsEnclosed context.depth SpellsNth) (enclosed_once context.depth SpellsNth nth_once) (λ nth. simple (Position (record { kind = kind; nth = nth }))) v w text r s h k
  form_once (Pseudo.Text test) v w text r s h k =
      made_once (SpellsEnclosed context.depth SpellsString) (enclosed_once context.depth SpellsString string_once) (λ string. simple (text_part test string)) v w text r s h k

  pub pseudo_once : IsOnce (SpellsPseudo context Inner)
  pseudo_once v w text r s h k =
      let name = name_once h.name k.name text h.after k.after h.named k.named in
      let same_name = name.0 in
      let known_h = h.known in
      let known_k = k.known in
      let pseudo : h.pseudo ≡ k.pseudo = cc in
      let form : SpellsForm context Inner h.pseudo w h.after s = subst (λ p. SpellsForm context Inner p w h.after s) (sym pseudo) (subst (λ t. SpellsForm context Inner k.pseudo w t s) (sym name.1) k.form) in
      form_once h.pseudo v w h.after r s h.form form

  pub item_once : IsOnce (SpellsItem context Inner)
  item_once v w [] r s h k = absurd h
  item_once v w (c ∷ more) r s h k =
      both (nat_eq c 35) _ _ _ _ _ (λ _ p q. made_once SpellsName name_once (λ n. simple (Id n)) v w more r s p q)
      (λ _ p q. both (nat_eq c 46) _ _ _ _ _ (λ _ p q. made_once SpellsName name_once (λ n. simple (Class n)) v w more r s p q)
      (λ _ p q. both (nat_eq c 91) _ _ _ _ _ (λ _ p q. made_once _ attribute_once (λ a. simple (Attribute a)) v w more r s p q)
      (λ _ p q. pseudo_once v w more r s p.1 q.1) p q) p q) h k

  pub item_goes_on : GoesOn (SpellsItem context Inner) begins_item
  item_goes_on v [] r h = absurd h
  item_goes_on v (c ∷ more) r h =
      by_test (nat_eq c 35) _ _ _ (λ e _. grind (arith, nat_tests))
      (λ _ p. by_test (nat_eq c 46) _ _ _ (λ e _. grind (arith, nat_tests)) (λ _ p. by_test (nat_eq c 91) _ _ _ (λ e _. grind (arith, nat_tests)) (λ _ p. let e = p.0 in ap (λ d. begins_item (d ∷ more)) e) p) p) h

  pub compound_once : IsOnce (SpellsCompound context Inner)
  compound_once v w text r s h k =
      let front = type_once h.front k.front text h.after k.after h.first k.first in
      let run : Run (SpellsItem context Inner) begins_item k.items h.after s = subst (λ t. Run (SpellsItem context Inner) begins_item k.items t s) (sym front.1) k.run in
      let items = run_once (SpellsItem context Inner) item_once begins_item item_goes_on h.items k.items h.after r s h.run run in
      (h.is ∙ ap (λ f. compound (f ++ parts_among h.items) (lists_among h.items)) front.0 ∙ ap (λ i. compound (k.front ++ parts_among i) (lists_among i)) items.0 ∙ sym k.is, items.1)

  pub step_once : IsOnce (SpellsStep context Inner)
  step_once v w text r s h k =
      let sign = combinator_once v.0 w.0 (after_white text) h.mid k.mid h.combinator k.combinator in
      let other = compound_once v.1 w.1 h.mid r s h.compound (subst (λ t. SpellsCompound context Inner w.1 t s) (sym sign.1) k.compound) in
      let of : Combinator → CompoundSelector → Combinator × CompoundSelector = λ a b. (a, b) in
      (ap (λ a. of a v.1) sign.0 ∙ ap (λ b. of w.0 b) other.0, other.1)

  pub step_goes_on : GoesOn (SpellsStep context Inner) begins_step
  step_goes_on v text r h = h.on

  pub selector_once : IsOnce (SpellsSelector context Inner)
  selector_once v w text r s h k =
      let lead = lead_once context.is_relative v.0 w.0 text h.begin k.begin h.lead k.lead in
      let first = compound_once v.1 w.1 h.begin h.after k.after h.first (subst (λ t. SpellsCompound context Inner w.1 t k.after) (sym lead.1) k.first) in
      let run : Run (SpellsStep context Inner) begins_step k.steps h.after s = subst (λ t. Run (SpellsStep context Inner) begins_step k.steps t s) (sym first.1) k.run in
      let steps = run_once (SpellsStep context Inner) step_once begins_step step_goes_on h.steps k.steps h.after r s h.run run in
      let of : Combinator → CompoundSelector → Steps → Combinator × CompoundSelector × Steps = λ l a b. (l, a, b) in
      (ap (λ l. of l v.1 v.2) lead.0 ∙ ap (λ a. of w.0 a v.2) first.0 ∙ ap (λ b. of w.0 w.1 b) (h.is ∙ ap steps_of steps.0 ∙ sym k.is), steps.1)

  pub later_once : IsOnce (SpellsLater context Inner)
  later_once v w text r s h k = selector_once v w (after_white (drop 1 (after_white text))) r s h.selector k.selector

  pub later_goes_on : GoesOn (SpellsLater context Inner) begins_comma
  later_goes_on v text r h = h.comma

  pub list_once : IsOnce (SpellsList context Inner)
  list_once v w text r s h k =
      let first = selector_once h.one k.one text h.after k.after h.first k.first in
      let run : Run (SpellsLater context Inner) begins_comma k.more h.after s = subst (λ t. Run (SpellsLater context Inner) begins_comma k.more t s) (sym first.1) k.run in
      let more = run_once (SpellsLater context Inner) later_once begins_comma later_goes_on h.more k.more h.after r s h.run run in
      (h.is ∙ ap (λ o. selector_list (o ∷ h.more)) first.0 ∙ ap (λ m. selector_list (k.one ∷ m)) more.0 ∙ sym k.is, more.1)

within_once : (depth : ℕ) (in_has relative : Bool) → IsOnce (SpellsWithin depth in_has relative)
unfolding SpellsWithin
within_once zero in_has relative v w text r s h k = absurd h
within_once (suc depth) in_has relative v w text r s h k =
    list_once (record { depth = depth; in_has = in_has || relative; is_relative = relative }) (SpellsWithin depth (in_has || relative)) (λ other. within_once depth (in_has || relative) other) v w text r s h k

pub inner_once : (context : ParseContext) (relative : Bool) → IsOnce (SpellsInner context relative)
inner_once context relative = within_once context.depth context.in_has relative

pub stands_once : (text : List ℕ) (a b : SelectorList) → StandsFor text a → StandsFor text b → a ≡ b
stands_once text a b h k = (list_once whole (SpellsInner whole) (inner_once whole) a b (after_white text) h.after k.after h.spelled k.spelled).0
