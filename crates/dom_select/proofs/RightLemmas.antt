-- The nodes to the right of a node that a combinator goes to in one step.
use Rattle.std.proofs.Common.{◌≡◌, ◌⊎◌, ◌↔◌, ℕ, suc, List, [], ◌∷◌, length, map, Bool, true, false, Option, Some, None, inl, inr, refl, sym, ap, ◌∙◌, subst, true≢false}
use Rattle.std.specs.List.{list_all}
use Rattle.std.specs.Prelude.{◌==◌, if◌then◌else◌}
use Rattle.std.proofs.lemmas.Bool.{and_parts, cases_Bool, cases_lt, eqb-true, eq-eqb, or_left, or_right, or_cases}
use Rattle.std.proofs.lemmas.Option.{none-some}
use Rattle.dom_links.specs.Forest.{Forest, StandsOnce, children_of, parent, siblings}
use Rattle.dom_links.specs.Laws.{AreLines}
use Rattle.dom_links.specs.ListMoves.{SomeOf, element_at}
use Rattle.dom_links.specs.Lists.{after, before, first, is_member}
use Rattle.dom_links.specs.Trees.{ancestors}
use Rattle.dom_links.specs.Walk.{later, row_on}
use Rattle.dom_links.proofs.checks.Sounds.{after_before, before_after}
use Rattle.dom_links.proofs.forest.Neighbours.{after-stands, before-stands}
use Rattle.dom_links.proofs.forest.Places.{Beside, beside, siblings_child, siblings_once}
use Rattle.dom_selectors.specs.declared.syntax.Combinator.{Combinator}
use Rattle.dom_selectors.specs.declared.syntax.Combinator.TheVariants.{Descendant, Child, Adjacent, Sibling}
use Rattle.dom_selectors.specs.declared.syntax.Step.{Step}
use Rattle.dom_selectors.specs.ListsAsTrees.{steps_of}
use Rattle.dom_selectors.specs.Syntax.{CompoundSelector, no_steps}
use Rattle.dom_selectors.specs.ValuesAsTrees.{read_step}
use Rattle.dom_selectors.proofs.Layers.{read_step_is}
use Rattle.dom_select.specs.declared.matcher.has.Start.TheVariants.{Relative}
use Rattle.dom_select.specs.Has.{AreRightOf, IsElementThat, IsInRow, SelectorMatches, ends_right, is_sideways, right_row, row_combinator, row_to}
use Rattle.dom_select.specs.Leftward.{earlier}
use Rattle.dom_select.specs.Meaning.{CombinatorHolds, ComesFirst, Holds, MayBeOperand, RelativeMatches, StepsMatch}
use Rattle.dom_select.proofs.HasLemmas.{beside_itself, stands_first, stands_on}
use Rattle.dom_select.proofs.RowLemmas.{first_stands, on_earlier, parent_first, same_above, stands_farther}

-- a row that ends nowhere
whole : (ends : ℕ → Bool) (ns : List ℕ) → ((n : ℕ) → ends n ≡ false) → row_to ends ns ≡ ns
whole ends [] on = refl
whole ends (n ∷ ns) on = ap (λ (b : Bool). n ∷ (if b then [] else row_to ends ns)) (on n) ∙ ap (λ ms. n ∷ ms) (whole ends ns on)

module _ (forest : Forest) (lines : AreLines forest) (once : StandsOnce forest) where
  -- neighbours are so on the way to the right and on the way to the left

  known : (n m : ℕ) (neighbour : List ℕ → ℕ → Option ℕ) → neighbour [] n ≡ None → neighbour (siblings forest n) n ≡ Some m → is_member n (siblings forest n) ≡ true
  known n m neighbour alone e = elim (cases_lt n (length forest.content)) [
    | inl within ↦ once.placed n within
    | inr past ↦ absurd (none-some m (sym alone ∙ ap (λ ns. neighbour ns n) (sym (lines.unknown_alone n past).1) ∙ e))
  ]

  pub back_from : (n m : ℕ) → after (siblings forest n) n ≡ Some m → before (siblings forest m) m ≡ Some n
  back_from n m e =
      let same = Beside.same_siblings (beside forest n m once (after-stands (siblings forest n) n m e)) in
      ap (λ ns. before ns m) same ∙ before_after (siblings forest n) n m (siblings_once forest n once) (known n m after refl e) e

  pub forth_from : (n m : ℕ) → before (siblings forest n) n ≡ Some m → after (siblings forest m) m ≡ Some n
  forth_from n m e =
      let same = Beside.same_siblings (beside forest n m once (before-stands (siblings forest n) n m e)) in
      ap (λ ns. after ns m) same ∙ after_before (siblings forest n) n m (siblings_once forest n once) (known n m before refl e) e

  next_from : (o : Option ℕ) (n m : ℕ) (ms : List ℕ) → after (siblings forest n) n ≡ o → later forest false n ≡ m ∷ ms → (earlier forest m ≡ n ∷ earlier forest n) × (later forest false m ≡ ms)
  next_from None n m ms e h = let none : later forest false n ≡ [] = lines.beside false n ∙ ap (row_on forest false) e in cc
  next_from (Some k) n m ms e h =
      let is : k ∷ later forest false k ≡ m ∷ ms = sym (lines.beside false n ∙ ap (row_on forest false) e) ∙ h in
      let same : k ≡ m = cc in
      let rest : later forest false k ≡ ms = cc in
      (lines.beside true m ∙ ap (row_on forest true) (back_from n m (e ∙ ap (λ j. Some j) same)), ap (later forest false) (sym same) ∙ rest)

  before_from : (o : Option ℕ) (n v : ℕ) (vs : List ℕ) → before (siblings forest n) n ≡ o → earlier forest n ≡ v ∷ vs → (later forest false v ≡ n ∷ later forest false n) × (earlier forest v ≡ vs)
  before_from None n v vs e h = let none : earlier forest n ≡ [] = lines.beside true n ∙ ap (row_on forest true) e in cc
  before_from (Some k) n v vs e h =
      let is : k ∷ earlier forest k ≡ v ∷ vs = sym (lines.beside true n ∙ ap (row_on forest true) e) ∙ h in
      let same : k ≡ v = cc in
      let rest : earlier forest k ≡ vs = cc in
      (lines.beside false v ∙ ap (row_on forest false) (forth_from n v (e ∙ ap (λ j. Some j) same)), ap (earlier forest) (sym same) ∙ rest)

  -- what comes up to the first element has no element between
  abbrev near : List ℕ → List ℕ
  near ns = row_to (ends_right forest Adjacent) ns

  to_right : (x w : ℕ) (ns : List ℕ) (n : ℕ) → later forest false n ≡ ns → ComesFirst forest x (n ∷ earlier forest n) → is_member w (near ns) ≡ true → ComesFirst forest x (earlier forest w)
  to_right x w [] n e h s = absurd (true≢false (sym s))
  to_right x w (m ∷ ms) n e h s =
      let step = next_from (after (siblings forest n) n) n m ms refl e in
      let here : ComesFirst forest x (earlier forest m) = subst (ComesFirst forest x) (sym step.0) h in
      let cut = λ (b : Bool). is_member w (if b then [] else near ms) in
      elim (or_cases (m == w) (cut (element_at forest m)) s) [
        | inl is ↦ subst (λ v. ComesFirst forest x (earlier forest v)) (eqb-true m w is) here
        | inr on ↦ elim (cases_Bool (element_at forest m)) [
          | inl t ↦ absurd (true≢false (sym on ∙ ap cut t))
          | inr f ↦ to_right x w ms m step.1 (inr ((λ t. true≢false (sym t ∙ f)), here)) (sym (ap cut f) ∙ on)
        ]
      ]

  to_left : (x w : ℕ) (ns : List ℕ) (n : ℕ) → earlier forest n ≡ ns → is_member w (near (n ∷ later forest false n)) ≡ true → ComesFirst forest x ns → is_member w (near (later forest false x)) ≡ true
  to_left x w [] n e s h = absurd h
  to_left x w (v ∷ vs) n e s (inl is) =
      ap (λ m. is_member w (near (later forest false m))) is ∙ ap (λ ns. is_member w (near ns)) (before_from (before (siblings forest n) n) n v vs refl e).0 ∙ s
  to_left x w (v ∷ vs) n e s (inr h) =
      let step = before_from (before (siblings forest n) n) n v vs refl e in
      let farther : is_member w (near (later forest false v)) ≡ true = ap (λ ns. is_member w (near ns)) step.0 ∙ s in
      let cut = λ (b : Bool). is_member w (if b then [] else near (later forest false v)) in
      elim (cases_Bool (element_at forest v)) [
        | inl t ↦ absurd (h.0 t)
        | inr f ↦ to_left x w vs v step.1 (or_right (v == w) (cut (element_at forest v)) (ap cut f ∙ farther)) h.1
      ]

  child_stands : (x w : ℕ) → parent forest w ≡ Some x → is_member w (children_of forest x) ≡ true
  child_stands x w e = elim (cases_lt w (length forest.content)) [
    | inl within ↦ ap (is_member w) (sym (siblings_child forest w x e)) ∙ once.placed w within
    | inr past ↦ absurd (none-some x (sym (lines.unknown_alone w past).0 ∙ e))
  ]

  -- the children
  pub right_below : (x : ℕ) (next : Option ℕ) → next ≡ first (children_of forest x) → AreRightOf forest Child x (right_row forest Child next)
  unfolding CombinatorHolds
  right_below x next link w el =
      let same : right_row forest Child next ≡ children_of forest x = whole (ends_right forest Child) (row_on forest false next) (λ n. refl) ∙ (ap (row_on forest false) link ∙ sym (lines.below false x)) in
      ((λ s. (once.in_children x w (ap (is_member w) (sym same) ∙ s)).1), λ e. ap (is_member w) same ∙ child_stands x w e)

  -- the later siblings, or the next element
  pub right_beside : (k : Combinator) (x : ℕ) (next : Option ℕ) → (k ≡ Adjacent) ⊎ (k ≡ Sibling) → next ≡ after (siblings forest x) x → AreRightOf forest k x (right_row forest k next)
  unfolding CombinatorHolds
  right_beside k x next (inl is) link w el =
      let row : row_on forest false next ≡ later forest false x = ap (row_on forest false) link ∙ sym (lines.beside false x) in
      let same : is_member w (right_row forest k next) ≡ is_member w (near (later forest false x)) = ap (λ j. is_member w (right_row forest j next)) is ∙ ap (λ ns. is_member w (near ns)) row in
      subst (λ j. (is_member w (right_row forest k next) ≡ true) ↔ CombinatorHolds forest j x w) (sym is) (
        (λ s. to_right x w (later forest false x) x refl (inl refl) (sym same ∙ s)),
        λ h. same ∙ to_left x w (earlier forest w) w refl (or_left (w == w) _ (eq-eqb w w refl)) h,
      )
  right_beside k x next (inr is) link w el =
      let row : row_on forest false next ≡ later forest false x = ap (row_on forest false) link ∙ sym (lines.beside false x) in
      let all : row_to (ends_right forest Sibling) (row_on forest false next) ≡ row_on forest false next = whole (ends_right forest Sibling) (row_on forest false next) (λ n. refl) in
      let same : is_member w (right_row forest k next) ≡ is_member x (earlier forest w) = ap (λ j. is_member w (right_row forest j next)) is ∙ ap (is_member w) (all ∙ row) ∙ lines.after_before x w in
      subst (λ j. (is_member w (right_row forest k next) ≡ true) ↔ CombinatorHolds forest j x w) (sym is) ((λ s. sym same ∙ s), λ h. same ∙ h)

-- one more node of the row

pub row_on_right : (forest : Forest) (k : Combinator) (n : ℕ) (next : Option ℕ) → AreLines forest → ends_right forest k n ≡ false → next ≡ after (siblings forest n) n → right_row forest k (Some n) ≡ n ∷ right_row forest k next
row_on_right forest k n next lines on link =
    ap (λ (b : Bool). n ∷ (if b then [] else row_to (ends_right forest k) (later forest false n))) on ∙ ap (λ ns. n ∷ row_to (ends_right forest k) ns) (lines.beside false n ∙ ap (row_on forest false) (sym link))

pub row_ends_right : (forest : Forest) (k : Combinator) (n : ℕ) → ends_right forest k n ≡ true → right_row forest k (Some n) ≡ n ∷ right_row forest k None
row_ends_right forest k n ends = ap (λ (b : Bool). n ∷ (if b then [] else row_to (ends_right forest k) (later forest false n))) ends

-- what a selector of one compound leads to

element_may : (forest : Forest) (k : Combinator) (x w : ℕ) → element_at forest w ≡ true → MayBeOperand forest x k w
element_may forest Descendant x w el = tt
element_may forest Child x w el = tt
element_may forest Adjacent x w el = inr el
element_may forest Sibling x w el = inr el

module _ (first : CompoundSelector) (forest : Forest) where
  abbrev pub SomeOfRow : List ℕ → Type 0
  SomeOfRow ns = SomeOf ns (IsElementThat first forest)

  pub leads_beside : (k : Combinator) (x : ℕ) (ns : List ℕ) → AreRightOf forest k x ns → SomeOfRow ns ↔ RelativeMatches k first no_steps forest x
  leads_beside k x ns right = (λ some. to some.0 some.1 some.2.0 some.2.1, back)
    where
      to : (w : ℕ) → is_member w ns ≡ true → element_at forest w ≡ true → Holds first forest w → RelativeMatches k first no_steps forest x
      to w s el holds = (w, w, ((right w el).0 s, beside_itself forest k x, element_may forest k x w el), holds, refl, el)

      back : RelativeMatches k first no_steps forest x → SomeOfRow ns
      back (w, y, joined, holds, e, el) =
          let elw : element_at forest w ≡ true = ap (element_at forest) e ∙ el in
          (w, (right w elw).1 joined.0, (elw, holds))

  pub row_here : (all rest : List ℕ) (n : ℕ) → all ≡ n ∷ rest → IsElementThat first forest n → SomeOfRow all
  row_here all rest n e h = (n, ap (is_member n) e ∙ stands_first n rest, h)

  pub row_later : (all rest : List ℕ) (n : ℕ) → all ≡ n ∷ rest → (IsElementThat first forest n → ⊥) → SomeOfRow rest ↔ SomeOfRow all
  row_later all rest n e none = (
    λ some. (some.0, ap (is_member some.0) e ∙ or_right (n == some.0) (is_member some.0 rest) some.1, some.2),
    λ some. (some.0, stands_on all rest n some.0 e some.1 (λ is. none (subst (IsElementThat first forest) is some.2)), some.2),
  )

  pub row_ends : (k : Combinator) (next : Option ℕ) → next ≡ None → SomeOfRow (right_row forest k next) → ⊥
  row_ends k next none some = true≢false (sym some.1 ∙ ap (λ o. is_member some.0 (right_row forest k o)) none)

-- which leads go to siblings

pub goes_beside : (k : Combinator) → is_sideways k ≡ true → (k ≡ Adjacent) ⊎ (k ≡ Sibling)
goes_beside Descendant e = absurd (true≢false (sym e))
goes_beside Child e = absurd (true≢false (sym e))
goes_beside Adjacent e = inl refl
goes_beside Sibling e = inr refl

pub goes_below : (k : Combinator) → is_sideways k ≡ false → (k ≡ Descendant → ⊥) → k ≡ Child
goes_below Descendant e other = absurd (other refl)
goes_below Child e other = refl
goes_below Adjacent e other = absurd (true≢false e)
goes_below Sibling e other = absurd (true≢false e)

-- a selector whose steps go to siblings reaches children or siblings alone

module _ (forest : Forest) (lines : AreLines forest) where
  earlier_by : (k : Combinator) (w v : ℕ) → is_sideways k ≡ true → CombinatorHolds forest k w v → is_member w (earlier forest v) ≡ true
  unfolding CombinatorHolds
  earlier_by Descendant w v e h = absurd (true≢false (sym e))
  earlier_by Child w v e h = absurd (true≢false (sym e))
  earlier_by Adjacent w v e h = first_stands forest (earlier forest v) w h
  earlier_by Sibling w v e h = h

  sibling_in_row : (x w v : ℕ) → is_member w (earlier forest v) ≡ true → CombinatorHolds forest Sibling x w → CombinatorHolds forest Sibling x v
  unfolding CombinatorHolds
  sibling_in_row x w v s h = let far = on_earlier forest lines v w s in stands_farther (suc far.0) (earlier forest v) x (ap (is_member x) (sym far.1) ∙ h)

  child_in_row : (x w v : ℕ) → is_member w (earlier forest v) ≡ true → CombinatorHolds forest Child x w → CombinatorHolds forest Child x v
  unfolding CombinatorHolds
  child_in_row x w v s h = parent_first forest lines v x (ancestors forest x) (sym (same_above forest lines v w s) ∙ lines.up w x h)

  in_row : (k : Combinator) (x w v : ℕ) → is_member w (earlier forest v) ≡ true → CombinatorHolds forest (row_combinator k) x w → CombinatorHolds forest (row_combinator k) x v
  in_row Descendant x w v s h = sibling_in_row x w v s h
  in_row Child x w v s h = child_in_row x w v s h
  in_row Adjacent x w v s h = sibling_in_row x w v s h
  in_row Sibling x w v s h = sibling_in_row x w v s h

  begins_row : (k : Combinator) (x w : ℕ) → (k ≡ Descendant → ⊥) → CombinatorHolds forest k x w → CombinatorHolds forest (row_combinator k) x w
  unfolding CombinatorHolds
  begins_row Descendant x w other h = absurd (other refl)
  begins_row Child x w other h = h
  begins_row Adjacent x w other h = first_stands forest (earlier forest w) x h
  begins_row Sibling x w other h = h

  leads_in_row : (k : Combinator) (steps : List Step) (exempt x w y : ℕ) → list_all (λ s. is_sideways s.combinator) steps ≡ true → StepsMatch (steps_of (map read_step steps)) forest exempt w y →
      CombinatorHolds forest (row_combinator k) x w → CombinatorHolds forest (row_combinator k) x y
  leads_in_row k [] exempt x w y all led h = subst (CombinatorHolds forest (row_combinator k) x) led h
  leads_in_row k (s ∷ steps) exempt x w y all (v, joined, holds, led) h =
      let both = and_parts (is_sideways s.combinator) (list_all (λ t. is_sideways t.combinator) steps) all in
      let sideways : is_sideways (read_step s).0 ≡ true = ap (λ t. is_sideways t.0) (read_step_is s) ∙ both.0 in
      leads_in_row k steps exempt x v y both.1 led (in_row k x w v (earlier_by (read_step s).0 w v sideways joined.0) h)

  pub reached_in_row : (k : Combinator) (first : CompoundSelector) (steps : List Step) (x y : ℕ) → IsInRow k steps → SelectorMatches (Relative k x) first (steps_of (map read_step steps)) forest y → CombinatorHolds forest (row_combinator k) x y
  reached_in_row k first steps x y near (el, (w, (joined, holds), led)) = leads_in_row k steps y x w y near.0 led (begins_row k x w near.1 joined.0)

pub row_goes_near : (k : Combinator) → row_combinator k ≡ Descendant → ⊥
row_goes_near Descendant e = cc
row_goes_near Child e = cc
row_goes_near Adjacent e = cc
row_goes_near Sibling e = cc
