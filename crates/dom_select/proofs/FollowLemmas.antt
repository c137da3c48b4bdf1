-- A chain of compounds is followed from the nearest node that will do, and no farther one does better: what stands on the
-- left of where a farther one leads stands on the left of where the nearest one leads too.
use Rattle.std.proofs.Common.{◌≡◌, ◌⊎◌, ◌↔◌, ◌<◌, ◌≤◌, ◌+◌, ℕ, suc, List, [], ◌∷◌, ◌++◌, Bool, true, false, true≢false, IsTrue, MatchBool, MatchOption, Option, Some, None, inl, inr, refl, sym, ap, ◌∙◌, subst, length, drop, arith, append_assoc, append-nil, length-drop}
use Rattle.std.specs.Prelude.{◌==◌}
use Rattle.std.specs.Option.{is_some}
use Rattle.std.proofs.lemmas.Bool.{eqb-true}
use Rattle.dom_links.specs.Forest.{Forest}
use Rattle.dom_links.specs.Laws.{AreLines}
use Rattle.dom_links.specs.Lists.{is_member}
use Rattle.dom_links.specs.Trees.{ancestors}
use Rattle.dom_selectors.specs.declared.syntax.Combinator.{Combinator}
use Rattle.dom_selectors.specs.declared.syntax.Combinator.TheVariants.{Descendant, Child, Adjacent, Sibling}
use Rattle.dom_selectors.specs.ListsAsTrees.{steps_of}
use Rattle.dom_links.specs.ListMoves.{element_at}
use Rattle.dom_select.specs.Leftward.{earlier, ends_at, left_of, line}
use Rattle.dom_select.specs.Meaning.{Holds, StepsMatch, MayBeOperand, ChainMatches, CombinatorHolds}
use Rattle.dom_selectors.specs.Syntax.{CompoundSelector}
use Rattle.dom_select.specs.Chains.{AreTighter, LastHolds, EndsLoosely, SuffixMatches, SuffixMatchesFrom, IsOrPrecedes, Precedes, SomeCandidateMatches, binding_level}
use Rattle.dom_select.proofs.ReachLemmas.{IsMeant, SomeOnLine, from_far, from_line, left_here, line_some, chain_by_last, to_line}
use Rattle.dom_selectors.proofs.Weights.{steps_weight}
use Rattle.dom_select.proofs.RowLemmas.{among_elements, comes_first, drop_swap, drop_twice, element_among, elements_before, first_element, first_stands, on_above, on_earlier, on_elements, parent_first, same_above, stands_farther}

abbrev Chain : Type 0
Chain = List (Combinator × CompoundSelector)

-- who comes first

pub precedes_then : (forest : Forest) (a b c : ℕ) → Precedes forest a b → Precedes forest b c → Precedes forest a c
precedes_then forest a b c (inl p) (inl q) = inl (omega arith)
precedes_then forest a b c (inl p) (inr q) = inl (let e = q.0 in omega arith)
precedes_then forest a b c (inr p) (inl q) = inl (let e = p.0 in omega arith)
precedes_then forest a b c (inr p) (inr q) = inr (p.0 ∙ q.0, let x = p.1 in let y = q.1 in omega arith)

pub apart : (forest : Forest) (v n : ℕ) → Precedes forest v n → v ≡ n → ⊥
apart forest v n (inl p) e = let same = ap (λ m. length (ancestors forest m)) e in omega arith
apart forest v n (inr p) e = let same = ap (λ m. length (earlier forest m)) e in let less = p.1 in omega arith

pub precedes_from : (forest : Forest) (a b c : ℕ) → Precedes forest a b → IsOrPrecedes forest b c → Precedes forest a c
precedes_from forest a b c p (inl e) = subst (Precedes forest a) e p
precedes_from forest a b c p (inr q) = precedes_then forest a b c p q

some_stands : (ns : List ℕ) (n : ℕ) → is_member n ns ≡ true → 0 < length ns
some_stands [] n s = cc
some_stands (m ∷ ns) n s = omega arith

shorter : (ns ms : List ℕ) (n t : ℕ) → is_member n ns ≡ true → ms ≡ drop (suc t) ns → length ms < length ns
shorter ns ms n t s e = let some = some_stands ns n s in let same = ap length e ∙ length-drop (suc t) ns in omega arith

module _ (forest : Forest) (lines : AreLines forest) where
  earlier_precedes : (w n : ℕ) → is_member w (earlier forest n) ≡ true → Precedes forest w n
  earlier_precedes w n s = let far = on_earlier forest lines n w s in inr (ap length (same_above forest lines n w s), shorter (earlier forest n) (earlier forest w) w far.0 s far.1)

  pub stands_precedes : (k : Combinator) (w n : ℕ) → CombinatorHolds forest k w n → Precedes forest w n
  unfolding CombinatorHolds
  stands_precedes Descendant w n s = let far = on_above forest lines n w s in inl (shorter (ancestors forest n) (ancestors forest w) w far.0 s far.1)
  stands_precedes Child w n s = inl (let longer = ap length (lines.up n w s) in omega arith)
  stands_precedes Adjacent w n s = earlier_precedes w n (first_stands forest (earlier forest n) w s)
  stands_precedes Sibling w n s = earlier_precedes w n s

-- how many of the steps go up
abbrev up : Combinator → ℕ
up Child = 1
up _ = 0

abbrev ups : Chain → ℕ
ups [] = 0
ups (s ∷ ss) = up s.0 + ups ss

tighter_more : (a b : ℕ) (ss : Chain) → a ≤ b → AreTighter a ss → AreTighter b ss
tighter_more a b [] le t = tt
tighter_more a b (s ∷ ss) le t = (let less = t.0 in omega arith, tighter_more a b ss le t.1)

tighter_join : (a : ℕ) (ss ts : Chain) → AreTighter a ss → AreTighter a ts → AreTighter a (ss ++ ts)
tighter_join a [] ts x y = y
tighter_join a (s ∷ ss) ts x y = (x.0, tighter_join a ss ts x.1 y)

level_up : (k : Combinator) → binding_level k < 3 → up k ≡ 0
level_up Descendant less = absurd (omega arith)
level_up Child less = absurd (omega arith)
level_up Adjacent less = refl
level_up Sibling less = refl

no_ups : (ss : Chain) → AreTighter 3 ss → ups ss ≡ 0
no_ups [] t = refl
no_ups (s ∷ ss) t = let a = level_up s.0 t.0 in let b = no_ups ss t.1 in omega arith

module _ (forest : Forest) (exempt : ℕ) (lines : AreLines forest) where
  pub beside_element : (v : ℕ) → Precedes forest v exempt → (v ≡ exempt) ⊎ (element_at forest v ≡ true) → element_at forest v ≡ true
  beside_element v p (inl e) = absurd (apart forest v exempt p e)
  beside_element v p (inr e) = e

  -- what the nodes at both ends of some steps have to do with each other
  record Led (ss : Chain) (w n : ℕ) : Type 0 where
    at : IsOrPrecedes forest w exempt
    above : AreTighter 4 ss → ancestors forest w ≡ drop (ups ss) (ancestors forest n)
    back : AreTighter 2 ss → elements_before forest lines w ≡ drop (length ss) (elements_before forest lines n)

  step_above : (k : Combinator) (w v : ℕ) → CombinatorHolds forest k w v → binding_level k < 4 → ancestors forest w ≡ drop (up k) (ancestors forest v)
  unfolding CombinatorHolds
  step_above Descendant w v s less = absurd (omega arith)
  step_above Child w v s less = sym (ap (drop 1) (lines.up v w s))
  step_above Adjacent w v s less = same_above forest lines v w (first_stands forest (earlier forest v) w s)
  step_above Sibling w v s less = same_above forest lines v w s

  step_back : (k : Combinator) (w v : ℕ) → CombinatorHolds forest k w v → Precedes forest w exempt → MayBeOperand forest exempt k w → binding_level k < 2 →
      elements_before forest lines w ≡ drop 1 (elements_before forest lines v)
  unfolding CombinatorHolds
  step_back Descendant w v s p b less = absurd (omega arith)
  step_back Child w v s p b less = absurd (omega arith)
  step_back Adjacent w v s p b less = let found = comes_first forest (earlier forest v) w s (beside_element w p b) in first_element forest lines v w found.0 found.1
  step_back Sibling w v s p b less = absurd (omega arith)

  led_by : (ss : Chain) (w n : ℕ) → IsOrPrecedes forest n exempt → StepsMatch (steps_of ss) forest exempt w n → Led ss w n
  led_by [] w n at e = record {
    at = subst (λ m. IsOrPrecedes forest m exempt) (sym e) at;
    above = λ _. ap (ancestors forest) e;
    back = λ _. ap (elements_before forest lines) e;
  }
  led_by (s ∷ ss) w n at h =
      let v = h.0 in
      let rest = led_by ss v n at h.3 in
      let first = precedes_from forest w v exempt (stands_precedes forest lines s.0 w v h.1.0) rest.at in
      let more : 1 + length ss ≡ suc (length ss) = omega arith in
      record {
        at = inr first;
        above = λ t. step_above s.0 w v h.1.0 t.0 ∙ (ap (drop (up s.0)) (rest.above t.1) ∙ drop_twice (up s.0) (ups ss) (ancestors forest n));
        back = λ t. step_back s.0 w v h.1.0 first h.1.1 t.0 ∙ (ap (drop 1) (rest.back t.1) ∙ (drop_twice 1 (length ss) (elements_before forest lines n) ∙ ap (λ k. drop k (elements_before forest lines n)) more));
      }

  pub led_at : (ss : Chain) (w n : ℕ) → IsOrPrecedes forest n exempt → StepsMatch (steps_of ss) forest exempt w n → IsOrPrecedes forest w exempt
  led_at ss w n at h = (led_by ss w n at h).at

  -- what stands on the left of x stands on the left of w, where x is led to from farther back in the same list
  stands_row : (q : Combinator) (t u w x : ℕ) → 2 ≤ binding_level q → ancestors forest x ≡ ancestors forest w →
      elements_before forest lines x ≡ drop t (elements_before forest lines w) → IsOrPrecedes forest x exempt → MayBeOperand forest exempt q u → CombinatorHolds forest q u x → CombinatorHolds forest q u w
  unfolding CombinatorHolds
  stands_row Descendant t u w x low above back at b s = subst (λ ns. is_member u ns ≡ true) above s
  stands_row Child t u w x low above back at b s = parent_first forest lines w u (ancestors forest u) (sym above ∙ lines.up x u s)
  stands_row Adjacent t u w x low above back at b s = absurd (omega arith)
  stands_row Sibling t u w x low above back at b s =
      let e = beside_element u (precedes_from forest u x exempt (stands_precedes forest lines Sibling u x s) at) b in
      among_elements forest (earlier forest w) u (stands_farther t (elements_before forest lines w) u
      (subst (λ ns. is_member u ns ≡ true) back (element_among forest (earlier forest x) u s e)))

  -- the same where x is led to from farther up
  stands_up : (q : Combinator) (t u w x : ℕ) → 4 ≤ binding_level q → ancestors forest x ≡ drop t (ancestors forest w) → CombinatorHolds forest q u x → CombinatorHolds forest q u w
  unfolding CombinatorHolds
  stands_up Descendant t u w x low above s = stands_farther t (ancestors forest w) u (subst (λ ns. is_member u ns ≡ true) above s)
  stands_up Child t u w x low above s = absurd (omega arith)
  stands_up Adjacent t u w x low above s = absurd (omega arith)
  stands_up Sibling t u w x low above s = absurd (omega arith)

-- the ends of a chain

pub cases_last : (ss : Chain) → (ss ≡ []) ⊎ ((front : Chain) × (last : Combinator × CompoundSelector) × (ss ≡ front ++ last ∷ []))
cases_last [] = inl refl
cases_last (s ∷ ss) = more (cases_last ss)
  where
    more : (ss ≡ []) ⊎ ((front : Chain) × (last : Combinator × CompoundSelector) × (ss ≡ front ++ last ∷ [])) →
        (s ∷ ss ≡ []) ⊎ ((front : Chain) × (last : Combinator × CompoundSelector) × (s ∷ ss ≡ front ++ last ∷ []))
    more (inl e) = inr ([], s, ap (λ ts. s ∷ ts) e)
    more (inr (front, last, e)) = inr (s ∷ front, last, ap (λ ts. s ∷ ts) e)

pub none_last : (front : Chain) (last : Combinator × CompoundSelector) → [] ≡ front ++ last ∷ [] → ⊥
none_last [] last e = cc
none_last (s ∷ front) last e = cc

pub last_once : (xs ys : Chain) (x y : Combinator × CompoundSelector) → xs ++ x ∷ [] ≡ ys ++ y ∷ [] → x ≡ y
last_once [] [] x y e = cc
last_once [] (t ∷ ys) x y e = let tail : [] ≡ ys ++ y ∷ [] = cc in absurd (none_last ys y tail)
last_once (s ∷ xs) [] x y e = let tail : [] ≡ xs ++ x ∷ [] = cc in absurd (none_last xs x tail)
last_once (s ∷ xs) (t ∷ ys) x y e = let tail : xs ++ x ∷ [] ≡ ys ++ y ∷ [] = cc in last_once xs ys x y tail

module _ (forest : Forest) (exempt : ℕ) where
  steps_cut : (f p : Chain) (a n : ℕ) → StepsMatch (steps_of (f ++ p)) forest exempt a n → (w : ℕ) × StepsMatch (steps_of f) forest exempt a w × StepsMatch (steps_of p) forest exempt w n
  steps_cut [] p a n h = (a, refl, h)
  steps_cut (s ∷ f) p a n h = let r = steps_cut f p h.0 n h.3 in (r.0, (h.0, h.1, h.2, r.1), r.2)

  steps_join : (f p : Chain) (a w n : ℕ) → StepsMatch (steps_of f) forest exempt a w → StepsMatch (steps_of p) forest exempt w n → StepsMatch (steps_of (f ++ p)) forest exempt a n
  steps_join [] p a w n e h = subst (λ m. StepsMatch (steps_of p) forest exempt m n) (sym e) h
  steps_join (s ∷ f) p a w n l h = (l.0, l.1, l.2, steps_join f p l.0 w n l.3 h)

  chain_cut : (first : ℕ → Type 0) (ss f p : Chain) (n : ℕ) → ss ≡ f ++ p → ChainMatches first (steps_of ss) forest exempt n →
      (w : ℕ) × ChainMatches first (steps_of f) forest exempt w × StepsMatch (steps_of p) forest exempt w n
  chain_cut first ss f p n e r =
      let s = subst (λ z. ChainMatches first (steps_of z) forest exempt n) e r in
      let c = steps_cut f p s.0 n s.2 in
      (c.0, (s.0, s.1, c.1), c.2)

-- what is reached where the last compound holds
module _ (forest : Forest) (exempt : ℕ) (first : ℕ → Type 0) where
  pub chain_end : (ss : Chain) (n : ℕ) → ChainMatches first (steps_of ss) forest exempt n → LastHolds forest exempt first ss n
  chain_end ss n r = record {
    alone = λ e. let only = subst (λ z. ChainMatches first (steps_of z) forest exempt n) e r in subst first only.2 only.1;
    behind = λ front last e. let ends = (chain_by_last forest exempt first ss front last n e).0 r in (ends.0, ends.1);
  }

  pub ends_alone : (ss : Chain) (n : ℕ) → ss ≡ [] → first n → LastHolds forest exempt first ss n
  ends_alone ss n e h = record { alone = λ _. h; behind = λ front last so. absurd (none_last front last (sym e ∙ so)) }

  pub ends_behind : (ss front : Chain) (last : Combinator × CompoundSelector) (n : ℕ) → ss ≡ front ++ last ∷ [] → MayBeOperand forest exempt last.0 n → Holds last.1 forest n → LastHolds forest exempt first ss n
  ends_behind ss front last n e b h = record {
    alone = λ so. absurd (none_last front last (sym so ∙ e));
    behind = λ other one so. let same = last_once front other last one (sym e ∙ so) in subst (λ s. MayBeOperand forest exempt s.0 n × Holds s.1 forest n) same (b, h);
  }

  -- what stands on the left of x stands on the left of w, so that what reaches x reaches w
  moved_over : (left : Chain) (w x : ℕ) → LastHolds forest exempt first left w
      → ((front : Chain) (last : Combinator × CompoundSelector) (u : ℕ) → left ≡ front ++ last ∷ [] → MayBeOperand forest exempt last.0 u → CombinatorHolds forest last.0 u x → CombinatorHolds forest last.0 u w)
      → ChainMatches first (steps_of left) forest exempt x → ChainMatches first (steps_of left) forest exempt w
  moved_over left w x held stands r = go (cases_last left)
    where
      go : (left ≡ []) ⊎ ((front : Chain) × (last : Combinator × CompoundSelector) × (left ≡ front ++ last ∷ [])) → ChainMatches first (steps_of left) forest exempt w
      go (inl e) = subst (λ z. ChainMatches first (steps_of z) forest exempt w) (sym e) (w, held.alone e, refl)
      go (inr (front, last, e)) =
          let ends = (chain_by_last forest exempt first left front last x e).0 r in
          let here = held.behind front last e in
          let some = ends.2 in
          (chain_by_last forest exempt first left front last w e).1 (here.0, here.1, (some.0, stands front last some.0 e some.2.0 some.1, some.2))

  module _ (lines : AreLines forest) (left passed : Chain) (v w : ℕ) (at : IsOrPrecedes forest v exempt) (held : LastHolds forest exempt first left w) (led : StepsMatch (steps_of passed) forest exempt w v) where
    -- where the chain is followed from an element farther back, or from a node farther up, it does no better
    row_better : (y x : ℕ) → AreTighter 2 passed → EndsLoosely 2 left → is_member y (earlier forest v) ≡ true → element_at forest y ≡ true
        → StepsMatch (steps_of passed) forest exempt x y → ChainMatches first (steps_of left) forest exempt x → ChainMatches first (steps_of left) forest exempt w
    row_better y x tight loose s e led_y r =
        let before_v = earlier_precedes forest lines y v s in
        let at_y : IsOrPrecedes forest y exempt = inr (precedes_from forest y v exempt before_v at) in
        let one = led_by forest exempt lines passed w v at led in
        let other = led_by forest exempt lines passed x y at_y led_y in
        let far = on_elements forest lines v y (element_among forest (earlier forest v) y s e) in
        let flat = no_ups passed (tighter_more 2 3 passed (omega arith) tight) in
        let up_w = one.above (tighter_more 2 4 passed (omega arith) tight) in
        let up_x = other.above (tighter_more 2 4 passed (omega arith) tight) in
        let above : ancestors forest x ≡ ancestors forest w =
        up_x ∙ (ap (drop (ups passed)) (same_above forest lines v y s) ∙ sym up_w) in
        let back : elements_before forest lines x ≡ drop (suc far.0) (elements_before forest lines w) =
        other.back tight ∙ (ap (drop (length passed)) far.1 ∙ (drop_swap (length passed) (suc far.0) (elements_before forest lines v) ∙ sym (ap (drop (suc far.0)) (one.back tight)))) in
        moved_over left w x held (λ front last u is b. stands_row forest exempt lines last.0 (suc far.0) u w x (loose front last is) above back other.at b) r

    up_better : (y x : ℕ) → AreTighter 4 passed → EndsLoosely 4 left → is_member y (ancestors forest v) ≡ true
        → StepsMatch (steps_of passed) forest exempt x y → ChainMatches first (steps_of left) forest exempt x → ChainMatches first (steps_of left) forest exempt w
    unfolding CombinatorHolds
    up_better y x tight loose s led_y r =
        let before_v = stands_precedes forest lines Descendant y v s in
        let at_y : IsOrPrecedes forest y exempt = inr (precedes_from forest y v exempt before_v at) in
        let one = led_by forest exempt lines passed w v at led in
        let other = led_by forest exempt lines passed x y at_y led_y in
        let far = on_above forest lines v y s in
        let above : ancestors forest x ≡ drop (suc far.0) (ancestors forest w) =
        other.above tight ∙ (ap (drop (ups passed)) far.1 ∙ (drop_swap (ups passed) (suc far.0) (ancestors forest v) ∙ sym (ap (drop (suc far.0)) (one.above tight)))) in
        moved_over left w x held (λ front last u is b. stands_up forest exempt lines last.0 (suc far.0) u w x (loose front last is) above) r

-- the chain was followed from the nearest node: a node that is farther, but where the combinator still holds, does no better
module _ (forest : Forest) (exempt : ℕ) (first : ℕ → Type 0) (lines : AreLines forest) where
  abbrev Meant : Chain → Combinator → ℕ → Type 0
  Meant ss k = IsMeant forest exempt first (steps_of ss) k

  farther : (k : Combinator) (ss left : Chain) (v w : ℕ) → IsOrPrecedes forest v exempt → SuffixMatches forest exempt first (binding_level k) ss left v w
      → (y : ℕ) → is_member y (line forest k v) ≡ true → Meant ss k y → (k ≡ Sibling) ⊎ (k ≡ Descendant) → ChainMatches first (steps_of left) forest exempt w
  unfolding CombinatorHolds
  farther Descendant ss left v w at followed y s q which =
      let cut = chain_cut forest exempt first ss left followed.passed y followed.split q.1 in
      up_better forest exempt first lines left followed.passed v w at followed.held followed.led y cut.0 followed.tighter followed.loose s cut.2 cut.1
  farther Sibling ss left v w at followed y s q which =
      let cut = chain_cut forest exempt first ss left followed.passed y followed.split q.1 in
      let e = beside_element forest exempt lines y (precedes_from forest y v exempt (earlier_precedes forest lines y v s) at) q.0 in
      row_better forest exempt first lines left followed.passed v w at followed.held followed.led y cut.0 followed.tighter followed.loose s e cut.2 cut.1
  farther Child ss left v w at followed y s q (inl e) = cc
  farther Child ss left v w at followed y s q (inr e) = cc
  farther Adjacent ss left v w at followed y s q (inl e) = cc
  farther Adjacent ss left v w at followed y s q (inr e) = cc

  -- some node on the way from the nearest on is meant
  pub nearest_will_do : (k : Combinator) (ss left : Chain) (v w : ℕ) → Precedes forest v exempt → MayBeOperand forest exempt k v → SuffixMatches forest exempt first (binding_level k) ss left v w
      → SomeOnLine (ends_at forest k) (Meant ss k) (v ∷ line forest k v) → ChainMatches first (steps_of left) forest exempt w
  nearest_will_do k ss left v w at b followed (inl q) = followed.whole q.1
  nearest_will_do Descendant ss left v w at b followed (inr h) =
      let far = from_far (Meant ss Descendant) (ancestors forest v) h.1 in farther Descendant ss left v w (inr at) followed far.0 far.1 far.2 (inr refl)
  nearest_will_do Sibling ss left v w at b followed (inr h) =
      let far = from_far (Meant ss Sibling) (earlier forest v) h.1 in farther Sibling ss left v w (inr at) followed far.0 far.1 far.2 (inl refl)
  nearest_will_do Child ss left v w at b followed (inr h) = absurd (h.0 refl)
  nearest_will_do Adjacent ss left v w at b followed (inr h) = absurd (h.0 (beside_element forest exempt lines v at b))

-- a chain that is being followed
pub record Following (forest : Forest) (exempt : ℕ) (first : ℕ → Type 0) (level : ℕ) (steps left : Chain) (n w : ℕ) : Type 0 where
  pub passed : Chain
  pub split : steps ≡ left ++ passed
  pub tighter : AreTighter level passed
  pub led : StepsMatch (steps_of passed) forest exempt w n
  pub held : LastHolds forest exempt first left w
  pub whole : ChainMatches first (steps_of steps) forest exempt n → ChainMatches first (steps_of left) forest exempt w

module _ (forest : Forest) (exempt : ℕ) (first : ℕ → Type 0) where
  pub following_none : (level : ℕ) (ss : Chain) (n : ℕ) → LastHolds forest exempt first ss n → Following forest exempt first level ss ss n n
  following_none level ss n held = record {
    passed = [];
    split = sym (append-nil ss);
    tighter = tt;
    led = refl;
    held = held;
    whole = λ r. r;
  }

  -- one more step and those before it that bind more tightly
  pub following_more : (level : ℕ) (ss left front next : Chain) (last : Combinator × CompoundSelector) (n w x : ℕ) → left ≡ front ++ last ∷ [] → binding_level last.0 < level
      → Following forest exempt first level ss left n w → SuffixMatchesFrom forest exempt first last.0 front next w x → Following forest exempt first level ss next n x
  following_more level ss left front next last n w x is below f g =
      let h = g.followed in
      let here = f.held.behind front last is in
      record {
        passed = h.passed ++ last ∷ f.passed;
        split = f.split ∙ (ap (λ z. z ++ f.passed) (is ∙ ap (λ z. z ++ last ∷ []) h.split) ∙ (append_assoc (next ++ h.passed) (last ∷ []) f.passed ∙ append_assoc next h.passed (last ∷ f.passed)));
        tighter = tighter_join level h.passed (last ∷ f.passed) (tighter_more (binding_level last.0) level h.passed (omega arith) h.tighter) (below, f.tighter);
        led = steps_join forest exempt h.passed (last ∷ f.passed) x g.at n h.led (w, (g.stands, g.beside, here.0), here.1, f.led);
        held = h.held;
        whole = λ r. g.whole ((chain_by_last forest exempt first left front last w is).0 (f.whole r)).2;
      }

  pub following_not : (level : ℕ) (ss left front : Chain) (last : Combinator × CompoundSelector) (n w : ℕ) → left ≡ front ++ last ∷ []
      → Following forest exempt first level ss left n w → (SomeCandidateMatches forest exempt first front last.0 w → ⊥) → ChainMatches first (steps_of ss) forest exempt n → ⊥
  following_not level ss left front last n w is f none r = none ((chain_by_last forest exempt first left front last w is).0 (f.whole r)).2

  -- the next step binds as loosely as this, or there is none
  pub followed_so_far : (level : ℕ) (ss left : Chain) (n w : ℕ) → EndsLoosely level left → Following forest exempt first level ss left n w → SuffixMatches forest exempt first level ss left n w
  followed_so_far level ss left n w loose f = record {
    passed = f.passed;
    split = f.split;
    tighter = f.tighter;
    loose = loose;
    led = f.led;
    held = f.held;
    whole = f.whole;
  }

  pub ends_here : (level : ℕ) (left front : Chain) (last : Combinator × CompoundSelector) → left ≡ front ++ last ∷ [] → level ≤ binding_level last.0 → EndsLoosely level left
  ends_here level left front last is le = λ other one so. subst (λ (s : Combinator × CompoundSelector). level ≤ binding_level s.0) (last_once front other last one (sym is ∙ so)) le

  pub ends_nowhere : (level : ℕ) (left : Chain) → left ≡ [] → EndsLoosely level left
  ends_nowhere level left is = λ other one so. absurd (none_last other one (sym is ∙ so))

  pub following_at : (level : ℕ) (ss left : Chain) (n w : ℕ) → AreLines forest → IsOrPrecedes forest n exempt → Following forest exempt first level ss left n w → IsOrPrecedes forest w exempt
  following_at level ss left n w lines at f = led_at forest exempt lines f.passed w n at f.led

  pub chain_alone : (ss : Chain) (n : ℕ) (b : Bool) → ss ≡ [] → (IsTrue b ↔ first n) → IsTrue b ↔ ChainMatches first (steps_of ss) forest exempt n
  chain_alone ss n b e h = ((λ t. subst (λ z. ChainMatches first (steps_of z) forest exempt n) (sym e) (n, h.0 t, refl)), λ r. h.1 ((chain_end forest exempt first ss n r).alone e))

  -- all steps were followed
  pub followed_all : (ss left : Chain) (n w : ℕ) → SuffixMatches forest exempt first 5 ss left n w → ChainMatches first (steps_of ss) forest exempt n
  followed_all ss left n w f = go (cases_last left)
    where
      too_loose : (k : Combinator) → 5 ≤ binding_level k → ⊥
      too_loose Descendant le = omega arith
      too_loose Child le = omega arith
      too_loose Adjacent le = omega arith
      too_loose Sibling le = omega arith

      go : (left ≡ []) ⊎ ((front : Chain) × (last : Combinator × CompoundSelector) × (left ≡ front ++ last ∷ [])) → ChainMatches first (steps_of ss) forest exempt n
      go (inl e) = subst (λ z. ChainMatches first (steps_of z) forest exempt n) (sym (f.split ∙ ap (λ z. z ++ f.passed) e)) (w, f.held.alone e, f.led)
      go (inr (front, last, e)) = absurd (too_loose last.0 (f.loose front last e))

  pub ends_match : (ss front : Chain) (last : Combinator × CompoundSelector) (n : ℕ) (b : Bool) → ss ≡ front ++ last ∷ [] → MayBeOperand forest exempt last.0 n
      → (IsTrue b ↔ Holds last.1 forest n) → MatchBool b (LastHolds forest exempt first ss n) (LastHolds forest exempt first ss n → ⊥)
  ends_match ss front last n true e beside h = ends_behind forest exempt first ss front last n e beside (h.0 refl)
  ends_match ss front last n false e beside h = λ held. true≢false (sym (h.1 (held.behind front last e).1))

-- one node on a way
pub stands_on_line : (forest : Forest) (lines : AreLines forest) (k : Combinator) (n v : ℕ) → SomeOnLine (ends_at forest k) (λ m. m ≡ v) (line forest k n) → CombinatorHolds forest k v n
stands_on_line forest lines k n v s = let found = from_line (λ m. m ≡ v) forest k n lines s in subst (λ m. CombinatorHolds forest k m n) found.2 found.1

module _ (forest : Forest) (exempt : ℕ) (first : ℕ → Type 0) (lines : AreLines forest) (k : Combinator) (ss : Chain) where
  abbrev OnLine : (ℕ → Type 0) → ℕ → Type 0
  OnLine Q n = SomeOnLine (ends_at forest k) Q (line forest k n)

  -- the next node on the way stands to the first as the combinator says
  pub next_stands : (n at v : ℕ) → ((u : ℕ) → OnLine (λ m. m ≡ u) at → OnLine (λ m. m ≡ u) n) → left_of forest k at ≡ Some v → CombinatorHolds forest k v n
  next_stands n at v back link = stands_on_line forest lines k n v (back v (left_here forest k (λ m. m ≡ v) lines at v link refl))

  pub next_precedes : (n at v : ℕ) → IsOrPrecedes forest n exempt → ((u : ℕ) → OnLine (λ m. m ≡ u) at → OnLine (λ m. m ≡ u) n) → left_of forest k at ≡ Some v → Precedes forest v exempt
  next_precedes n at v here back link = precedes_from forest v n exempt (stands_precedes forest lines k v n (next_stands n at v back link)) here

  pub followed_nearest : (left : Chain) (n at v w level : ℕ) → IsOrPrecedes forest n exempt → left_of forest k at ≡ Some v → MayBeOperand forest exempt k v → level ≡ binding_level k
      → SuffixMatches forest exempt first level ss left v w → (OnLine (IsMeant forest exempt first (steps_of ss) k) n → OnLine (IsMeant forest exempt first (steps_of ss) k) at)
      → ((u : ℕ) → OnLine (λ m. m ≡ u) at → OnLine (λ m. m ≡ u) n) → SuffixMatchesFrom forest exempt first k ss left n w
  followed_nearest left n at v w level here link beside is followed forth back =
      let f = subst (λ (m : ℕ). SuffixMatches forest exempt first m ss left v w) is followed in
      let Q : ℕ → Type 0 = IsMeant forest exempt first (steps_of ss) k in
      record {
        at = v;
        stands = next_stands n at v back link;
        beside = beside;
        followed = f;
        whole = λ some. nearest_will_do forest exempt first lines k ss left v w (next_precedes n at v here back link) beside f
            (subst (SomeOnLine (ends_at forest k) Q) (line_some forest k at v lines link) (forth (to_line Q forest k n some.0 lines some.1 some.2)));
      }

  -- a node farther on the way is on the whole way
  pub line_back : (at v u : ℕ) → left_of forest k at ≡ Some v → ends_at forest k v ≡ false → OnLine (λ m. m ≡ u) v → OnLine (λ m. m ≡ u) at
  line_back at v u link goes s = subst (SomeOnLine (ends_at forest k) (λ m. m ≡ u)) (sym (line_some forest k at v lines link)) (inr ((λ end. true≢false (sym end ∙ goes)), s))

pub weight_cut : (ss left passed : Chain) → ss ≡ left ++ passed → steps_weight (steps_of left) ≤ steps_weight (steps_of ss)
weight_cut ss left passed e = let same = ap (λ z. steps_weight (steps_of z)) e in let less = shorter_front left passed in omega arith
  where
    shorter_front : (left passed : Chain) → steps_weight (steps_of left) ≤ steps_weight (steps_of (left ++ passed))
    shorter_front [] passed = omega arith
    shorter_front (s ∷ left) passed = let less = shorter_front left passed in omega arith

pub loose_nowhere : (level : ℕ) (ss : Chain) → ss ≡ [] → EndsLoosely level ss
loose_nowhere level ss is = λ front last so. absurd (none_last front last (sym is ∙ so))

pub loose_at_last : (level : ℕ) (ss front : Chain) (last : Combinator × CompoundSelector) → ss ≡ front ++ last ∷ [] → level ≤ binding_level last.0 → EndsLoosely level ss
loose_at_last level ss front last is le = λ other one so. subst (λ (s : Combinator × CompoundSelector). level ≤ binding_level s.0) (last_once front other last one (sym is ∙ so)) le

-- the answer is some just where the fact holds
pub some_where : {P : Type 0} (o : Option P) (b : Bool) (R : Type 0) (F : P → Type 0) → ((p : P) → F p → R) → MatchOption o (R → ⊥) F → b ≡ is_some o → IsTrue b ↔ R
some_where None b R F all none is = ((λ e. absurd (true≢false (sym e ∙ is))), λ r. absurd (none r))
some_where (Some p) b R F all f is = ((λ _. all p f), λ _. is)

pub is_nil : {A : Type 0} (xs : List A) → (length xs == 0) ≡ true → xs ≡ []
is_nil [] e = refl
is_nil (x ∷ xs) e = let none = eqb-true (length (x ∷ xs)) 0 e in absurd (omega arith)
