-- A selector is reached from the right as it leads from the left.
use Rattle.std.proofs.Common.{◌≡◌, ◌⊎◌, ◌↔◌, ℕ, List, [], ◌∷◌, ◌++◌, Bool, true, false, IsTrue, Option, Some, None, inl, inr, refl, sym, ap, ◌∙◌, subst, true≢false}
use Rattle.std.specs.Prelude.{◌==◌, ◌||◌}
use Rattle.std.proofs.lemmas.Bool.{eqb-true, eq-eqb, or_right, or_cases}
use Rattle.dom_links.specs.Forest.{Forest, parent, siblings}
use Rattle.dom_links.specs.Laws.{AreLines}
use Rattle.dom_links.specs.Lists.{is_member, before}
use Rattle.dom_links.specs.Trees.{ancestors}
use Rattle.dom_links.specs.Walk.{row_on}
use Rattle.dom_selectors.specs.declared.syntax.Combinator.{Combinator}
use Rattle.dom_selectors.specs.declared.syntax.Combinator.TheVariants.{Descendant, Child, Adjacent, Sibling}
use Rattle.dom_selectors.specs.ListsAsTrees.{steps_of}
use Rattle.dom_links.specs.ListMoves.{element_at}
use Rattle.dom_select.specs.Leftward.{earlier, left_of, line, ends_at}
use Rattle.dom_selectors.specs.Syntax.{CompoundSelector, Steps}
use Rattle.dom_select.specs.Meaning.{ComesFirst, CombinatorHolds, MayBeOperand, IsJoined, Holds, StepsMatch, ChainMatches}

-- Q holds of a node of the list, with none before it at which the way ends
abbrev pub SomeOnLine : (ℕ → Bool) → (ℕ → Type 0) → List ℕ → Type 0
SomeOnLine ends Q [] = ⊥
SomeOnLine ends Q (v ∷ vs) = Q v ⊎ ((IsTrue (ends v) → ⊥) × SomeOnLine ends Q vs)

-- the way to the left, link by link
earlier_some : (forest : Forest) (n v : ℕ) → AreLines forest → before (siblings forest n) n ≡ Some v → earlier forest n ≡ v ∷ earlier forest v
earlier_some forest n v h e = h.beside true n ∙ ap (row_on forest true) e

earlier_none : (forest : Forest) (n : ℕ) → AreLines forest → before (siblings forest n) n ≡ None → earlier forest n ≡ []
earlier_none forest n h e = h.beside true n ∙ ap (row_on forest true) e

pub line_some : (forest : Forest) (k : Combinator) (n v : ℕ) → AreLines forest → left_of forest k n ≡ Some v → line forest k n ≡ v ∷ line forest k v
line_some forest Descendant n v h e = h.up n v e
line_some forest Child n v h e = h.up n v e
line_some forest Adjacent n v h e = earlier_some forest n v h e
line_some forest Sibling n v h e = earlier_some forest n v h e

pub line_none : (forest : Forest) (k : Combinator) (n : ℕ) → AreLines forest → left_of forest k n ≡ None → line forest k n ≡ []
line_none forest Descendant n h e = h.top n e
line_none forest Child n h e = h.top n e
line_none forest Adjacent n h e = earlier_none forest n h e
line_none forest Sibling n h e = earlier_none forest n h e

module _ (Q : ℕ → Type 0) where
  -- where the way never ends early, any node on it will do
  pub from_far : (ns : List ℕ) → SomeOnLine (λ v. false) Q ns → (v : ℕ) × (is_member v ns ≡ true) × Q v
  from_far [] h = absurd h
  from_far (m ∷ ms) (inl q) = (m, ap (λ b. b || is_member m ms) (eq-eqb m m refl), q)
  from_far (m ∷ ms) (inr h) = let w = from_far ms h.1 in (w.0, or_right (m == w.0) (is_member w.0 ms) w.1, w.2)

  pub to_far : (ns : List ℕ) (v : ℕ) → is_member v ns ≡ true → Q v → SomeOnLine (λ v. false) Q ns
  to_far [] v s q = absurd (true≢false (sym s))
  to_far (m ∷ ms) v s q = elim (or_cases (m == v) (is_member v ms) s) [
    | inl e ↦ inl (subst Q (sym (eqb-true m v e)) q)
    | inr t ↦ inr ((λ never. true≢false (sym never)), to_far ms v t q)
  ]

  pub from_next : (forest : Forest) (xs : List ℕ) → SomeOnLine (element_at forest) Q xs → (v : ℕ) × ComesFirst forest v xs × Q v
  from_next forest [] h = absurd h
  from_next forest (y ∷ ys) (inl q) = (y, inl refl, q)
  from_next forest (y ∷ ys) (inr h) = let w = from_next forest ys h.1 in (w.0, inr (h.0, w.1), w.2)

  pub to_next : (forest : Forest) (xs : List ℕ) (v : ℕ) → ComesFirst forest v xs → Q v → SomeOnLine (element_at forest) Q xs
  to_next forest [] v h q = absurd h
  to_next forest (y ∷ ys) v (inl e) q = inl (subst Q e q)
  to_next forest (y ∷ ys) v (inr h) q = inr (h.0, to_next forest ys v h.1 q)

  -- where the way ends at once, the first node is the only one
  from_near : (v : ℕ) (xs : List ℕ) → SomeOnLine (λ v. true) Q (v ∷ xs) → Q v
  from_near v xs (inl q) = q
  from_near v xs (inr h) = absurd (h.0 refl)

  from_child : (forest : Forest) (x : ℕ) (o : Option ℕ) → AreLines forest → parent forest x ≡ o →
      SomeOnLine (λ v. true) Q (ancestors forest x) → (v : ℕ) × (parent forest x ≡ Some v) × Q v
  from_child forest x None h e s = absurd (subst (SomeOnLine (λ v. true) Q) (h.top x e) s)
  from_child forest x (Some p) h e s =
      (p, e, from_near p (ancestors forest p) (subst (SomeOnLine (λ v. true) Q) (h.up x p e) s))

  -- Q holds of some node that stands to x as the combinator says
  pub from_line : (forest : Forest) (k : Combinator) (x : ℕ) → AreLines forest →
      SomeOnLine (ends_at forest k) Q (line forest k x) → (v : ℕ) × CombinatorHolds forest k v x × Q v
  unfolding CombinatorHolds
  from_line forest Descendant x h s = from_far (ancestors forest x) s
  from_line forest Child x h s = from_child forest x (parent forest x) h refl s
  from_line forest Adjacent x h s = from_next forest (earlier forest x) s
  from_line forest Sibling x h s = from_far (earlier forest x) s

  pub to_line : (forest : Forest) (k : Combinator) (x v : ℕ) → AreLines forest →
      CombinatorHolds forest k v x → Q v → SomeOnLine (ends_at forest k) Q (line forest k x)
  unfolding CombinatorHolds
  to_line forest Descendant x v h s q = to_far (ancestors forest x) v s q
  to_line forest Child x v h s q = subst (SomeOnLine (λ v. true) Q) (sym (h.up x v s)) (inl q)
  to_line forest Adjacent x v h s q = to_next forest (earlier forest x) v s q
  to_line forest Sibling x v h s q = to_far (earlier forest x) v s q

module _ (forest : Forest) (exempt : ℕ) where
  -- the last step of some, on the right
  pub steps_last : (ss : List (Combinator × CompoundSelector)) (s : Combinator × CompoundSelector) (w x : ℕ) →
      StepsMatch (steps_of (ss ++ s ∷ [])) forest exempt w x →
      (v : ℕ) × StepsMatch (steps_of ss) forest exempt w v × IsJoined forest exempt s.0 v x × Holds s.1 forest x
  steps_last [] s w x h =
      (w, refl, subst (λ y. IsJoined forest exempt s.0 w y) h.3 h.1, subst (λ y. Holds s.1 forest y) h.3 h.2)
  steps_last (t ∷ ss) s w x h =
      let r = steps_last ss s h.0 x h.3 in (r.0, (h.0, h.1, h.2, r.1), r.2, r.3)

  pub steps_more : (ss : List (Combinator × CompoundSelector)) (s : Combinator × CompoundSelector) (w v x : ℕ) →
      StepsMatch (steps_of ss) forest exempt w v → IsJoined forest exempt s.0 v x → Holds s.1 forest x →
      StepsMatch (steps_of (ss ++ s ∷ [])) forest exempt w x
  steps_more [] s w v x e j h = (x, subst (λ y. IsJoined forest exempt s.0 y x) (sym e) j, h, refl)
  steps_more (t ∷ ss) s w v x l j h = (l.0, l.1, l.2, steps_more ss s l.0 v x l.3 j h)

  -- what a chain of compounds asks of its last node, and of some node on the left
  abbrev pub LastStep : (ℕ → Type 0) → List (Combinator × CompoundSelector) → Combinator × CompoundSelector → ℕ → Type 0
  LastStep first ss s x = MayBeOperand forest exempt s.0 x × Holds s.1 forest x
      × ((v : ℕ) × CombinatorHolds forest s.0 v x × (MayBeOperand forest exempt s.0 v × ChainMatches first (steps_of ss) forest exempt v))

  pub from_chain : (first : ℕ → Type 0) (ss : List (Combinator × CompoundSelector)) (s : Combinator × CompoundSelector) (x : ℕ) →
      ChainMatches first (steps_of (ss ++ s ∷ [])) forest exempt x → LastStep first ss s x
  from_chain first ss s x r =
      let l = steps_last ss s r.0 x r.2 in
      (l.2.2, l.3, (l.0, l.2.0, (l.2.1, (r.0, r.1, l.1))))

  pub to_chain : (first : ℕ → Type 0) (ss : List (Combinator × CompoundSelector)) (s : Combinator × CompoundSelector) (x : ℕ) →
      LastStep first ss s x → ChainMatches first (steps_of (ss ++ s ∷ [])) forest exempt x
  to_chain first ss s x h =
      let r = h.2.2.1 in
      (r.0, r.1, steps_more ss s r.0 h.2.0 x r.2 (h.2.1, h.2.2.0, h.0) h.1)

  pub chain_by_last : (first : ℕ → Type 0) (ss front : List (Combinator × CompoundSelector)) (s : Combinator × CompoundSelector) (x : ℕ) →
      ss ≡ front ++ s ∷ [] → ChainMatches first (steps_of ss) forest exempt x ↔ LastStep first front s x
  chain_by_last first ss front s x e =
      let P : List (Combinator × CompoundSelector) → Type 0 = λ z. ChainMatches first (steps_of z) forest exempt x in
      (λ r. from_chain first front s x (subst P e r), λ h. subst P (sym e) (to_chain first front s x h))

  -- the forest on the way that the steps lead to
  abbrev pub IsMeant : (ℕ → Type 0) → Steps → Combinator → ℕ → Type 0
  IsMeant first steps k v = MayBeOperand forest exempt k v × ChainMatches first steps forest exempt v

-- what a test that failed says
pub not_so : (b : Bool) (P : Type 0) → (IsTrue b ↔ P) → b ≡ false → P → ⊥
not_so b P h e p = true≢false (sym (h.1 p) ∙ e)

module _ (forest : Forest) (k : Combinator) (Q : ℕ → Type 0) (linked : AreLines forest) where
  abbrev pub SomeLeft : ℕ → Type 0
  SomeLeft x = SomeOnLine (ends_at forest k) Q (line forest k x)

  pub left_here : (x v : ℕ) → left_of forest k x ≡ Some v → Q v → SomeLeft x
  left_here x v e q = subst (SomeOnLine (ends_at forest k) Q) (sym (line_some forest k x v linked e)) (inl q)

  pub left_nowhere : (x : ℕ) → left_of forest k x ≡ None → SomeLeft x → ⊥
  left_nowhere x e s = subst (SomeOnLine (ends_at forest k) Q) (line_none forest k x linked e) s

  pub left_ends : (x v : ℕ) → left_of forest k x ≡ Some v → (Q v → ⊥) → ends_at forest k v ≡ true → SomeLeft x → ⊥
  left_ends x v e refuted end s = at_end (subst (SomeOnLine (ends_at forest k) Q) (line_some forest k x v linked e) s)
    where
      at_end : SomeOnLine (ends_at forest k) Q (v ∷ line forest k v) → ⊥
      at_end (inl q) = refuted q
      at_end (inr h) = h.0 end

  pub left_farther : (x v : ℕ) → left_of forest k x ≡ Some v → (Q v → ⊥) → ends_at forest k v ≡ false → SomeLeft x ↔ SomeLeft v
  left_farther x v e refuted goes = (λ s. on (subst (SomeOnLine (ends_at forest k) Q) here s), λ s. subst (SomeOnLine (ends_at forest k) Q) (sym here) (inr ((λ end. true≢false (sym end ∙ goes)), s)))
    where
      here : line forest k x ≡ v ∷ line forest k v
      here = line_some forest k x v linked e

      on : SomeOnLine (ends_at forest k) Q (v ∷ line forest k v) → SomeLeft v
      on (inl q) = absurd (refuted q)
      on (inr h) = h.1
