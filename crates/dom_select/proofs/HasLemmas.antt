-- What a selector leads to from a node: it lies to the right of the node, so it is found by following the selector back from
-- each element there.
use Rattle.std.proofs.Common.{◌≡◌, ◌⊎◌, ◌↔◌, ℕ, suc, List, [], ◌∷◌, Bool, true, false, Option, Some, None, IsTrue, inl, inr, refl, sym, ap, ◌∙◌, subst, true≢false, arith, length, ◌<◌, ◌≤◌, ◌+◌, map, drop, get_or}
use Rattle.std.specs.Prelude.{◌==◌, if◌then◌else◌}
use Rattle.std.proofs.lemmas.List.{drop_more}
use Rattle.std.proofs.lemmas.Bool.{eqb-true, eq-eqb, or_left, or_right, or_cases}
use Rattle.dom_selectors.specs.declared.syntax.Compound.{Compound}
use Rattle.dom_selectors.specs.declared.syntax.Selector.{Selector, out-Selector}
use Rattle.dom_selectors.specs.declared.syntax.Step.{Step}
use Rattle.dom_selectors.specs.ListsAsTrees.{steps_of}
use Rattle.dom_selectors.specs.ValuesAsTrees.{read_compound, read_list, read_step}
use Rattle.dom_selectors.proofs.Layers.{read_selector_is}
use Rattle.dom_selectors.proofs.Weights.{selectors_weight}
use Rattle.dom_links.specs.Forest.{Forest, siblings}
use Rattle.dom_links.specs.Laws.{AreLines}
use Rattle.dom_links.specs.Lists.{is_member, after}
use Rattle.dom_links.specs.Trees.{ancestors, descendants_in_order}
use Rattle.dom_links.specs.Walk.{later, row_on}
use Rattle.dom_selectors.specs.declared.syntax.Combinator.{Combinator}
use Rattle.dom_selectors.specs.declared.syntax.Combinator.TheVariants.{Descendant, Child, Adjacent, Sibling}
use Rattle.dom_select.specs.declared.matcher.has.Start.{Start}
use Rattle.dom_select.specs.declared.matcher.has.Start.TheVariants.{Absolute, Relative}
use Rattle.dom_links.specs.ListMoves.{element_at}
use Rattle.dom_select.specs.Leftward.{earlier, ends_at, left_of, line}
use Rattle.dom_select.specs.Meaning.{IsJoined, StepsMatch, HasHolds, RelativeMatches, MayBeOperand, ChainMatches, CombinatorHolds, Holds, MatchesNode}
use Rattle.dom_selectors.specs.Syntax.{CompoundSelector, Steps, no_steps, step, alternative}
use Rattle.dom_select.specs.Chains.{Precedes}
use Rattle.dom_select.specs.Has.{Begins, CompoundsMatch, SelectorMatches, MatchesWithin, is_sideways, may_be_subject, search_roots, search_roots_from}
use Rattle.dom_select.proofs.FollowLemmas.{apart, chain_alone, is_nil, precedes_then, stands_precedes, stands_on_line}
use Rattle.dom_select.proofs.ReachLemmas.{SomeOnLine, left_ends, left_farther, left_here, left_nowhere, line_some, to_line}
use Rattle.dom_select.proofs.RowLemmas.{first_stands, on_above, on_earlier, same_above, stands_farther}

-- the node that is exempt

over : (forest : Forest) (k : Combinator) (x y v : ℕ) → Precedes forest x v → MayBeOperand forest x k v → MayBeOperand forest y k v
over forest Descendant x y v far b = tt
over forest Child x y v far b = tt
over forest Adjacent x y v far (inl e) = absurd (apart forest x v far (sym e))
over forest Adjacent x y v far (inr e) = inr e
over forest Sibling x y v far (inl e) = absurd (apart forest x v far (sym e))
over forest Sibling x y v far (inr e) = inr e

under : (forest : Forest) (k : Combinator) (x y v : ℕ) → element_at forest y ≡ true → MayBeOperand forest y k v → MayBeOperand forest x k v
under forest Descendant x y v el b = tt
under forest Child x y v el b = tt
under forest Adjacent x y v el (inl e) = inr (ap (element_at forest) e ∙ el)
under forest Adjacent x y v el (inr e) = inr e
under forest Sibling x y v el (inl e) = inr (ap (element_at forest) e ∙ el)
under forest Sibling x y v el (inr e) = inr e

module _ (forest : Forest) (lines : AreLines forest) where
  -- to the right of x, where x is never met, the last node may be exempt in its place
  exempt_last : (steps : Steps) (x w y : ℕ) → Precedes forest x w → StepsMatch steps forest x w y → StepsMatch steps forest y w y
  exempt_last no_steps x w y far e = e
  exempt_last (step k c more) x w y far (v, joined, holds, rest) =
      let on = precedes_then forest x w v far (stands_precedes forest lines k w v joined.0) in
      (v, (joined.0, over forest k x y w far joined.1, over forest k x y v on joined.2), holds, exempt_last more x v y on rest)

  -- and back, where the last one is an element
  exempt_first : (steps : Steps) (x w y : ℕ) → element_at forest y ≡ true → StepsMatch steps forest y w y → StepsMatch steps forest x w y
  exempt_first no_steps x w y el e = e
  exempt_first (step k c more) x w y el (v, joined, holds, rest) =
      (v, (joined.0, under forest k x y w el joined.1, under forest k x y v el joined.2), holds, exempt_first more x v y el rest)

  -- what lies to the right of a node

  goes_below : (k : Combinator) (x w v : ℕ) → CombinatorHolds forest k w v → is_member x (ancestors forest w) ≡ true → is_member x (ancestors forest v) ≡ true
  unfolding CombinatorHolds
  goes_below Descendant x w v s a = let far = on_above forest lines v w s in stands_farther (suc far.0) (ancestors forest v) x (ap (is_member x) (sym far.1) ∙ a)
  goes_below Child x w v s a = ap (is_member x) (lines.up v w s) ∙ or_right (w == x) (is_member x (ancestors forest w)) a
  goes_below Adjacent x w v s a = ap (is_member x) (sym (same_above forest lines v w (first_stands forest (earlier forest v) w s))) ∙ a
  goes_below Sibling x w v s a = ap (is_member x) (sym (same_above forest lines v w s)) ∙ a

  led_below : (steps : Steps) (exempt x w y : ℕ) → StepsMatch steps forest exempt w y → is_member x (ancestors forest w) ≡ true → is_member x (ancestors forest y) ≡ true
  led_below no_steps exempt x w y e a = ap (λ m. is_member x (ancestors forest m)) (sym e) ∙ a
  led_below (step k c more) exempt x w y (v, joined, holds, rest) a = led_below more exempt x v y rest (goes_below k x w v joined.0 a)

  -- at or below a later sibling of x
  abbrev Beyond : ℕ → ℕ → Type 0
  Beyond x w = (t : ℕ) × (is_member t (later forest false x) ≡ true) × ((w ≡ t) ⊎ (is_member t (ancestors forest w) ≡ true))

  along : (x t w v : ℕ) → is_member t (later forest false x) ≡ true → w ≡ t → is_member w (earlier forest v) ≡ true → is_member v (later forest false x) ≡ true
  along x t w v s e before =
      let x_before : is_member x (earlier forest w) ≡ true = ap (λ m. is_member x (earlier forest m)) e ∙ sym (lines.after_before x t) ∙ s in
      let far = on_earlier forest lines v w before in
      lines.after_before x v ∙ stands_farther (suc far.0) (earlier forest v) x (ap (is_member x) (sym far.1) ∙ x_before)

  goes_beyond : (k : Combinator) (x w v : ℕ) → CombinatorHolds forest k w v → Beyond x w → Beyond x v
  unfolding CombinatorHolds
  goes_beyond Descendant x w v s (t, there, inl e) = (t, there, inr (ap (λ m. is_member m (ancestors forest v)) (sym e) ∙ s))
  goes_beyond Child x w v s (t, there, inl e) = (t, there, inr (ap (is_member t) (lines.up v w s) ∙ or_left (w == t) (is_member t (ancestors forest w)) (eq-eqb w t e)))
  goes_beyond Adjacent x w v s (t, there, inl e) = (v, along x t w v there e (first_stands forest (earlier forest v) w s), inl refl)
  goes_beyond Sibling x w v s (t, there, inl e) = (v, along x t w v there e s, inl refl)
  goes_beyond Descendant x w v s (t, there, inr a) = (t, there, inr (goes_below Descendant t w v s a))
  goes_beyond Child x w v s (t, there, inr a) = (t, there, inr (goes_below Child t w v s a))
  goes_beyond Adjacent x w v s (t, there, inr a) = (t, there, inr (goes_below Adjacent t w v s a))
  goes_beyond Sibling x w v s (t, there, inr a) = (t, there, inr (goes_below Sibling t w v s a))

  led_beyond : (steps : Steps) (exempt x w y : ℕ) → StepsMatch steps forest exempt w y → Beyond x w → Beyond x y
  led_beyond no_steps exempt x w y e b = subst (Beyond x) e b
  led_beyond (step k c more) exempt x w y (v, joined, holds, rest) b = led_beyond more exempt x v y rest (goes_beyond k x w v joined.0 b)

  -- at or below one of the search_roots
  abbrev AtTop : Combinator → ℕ → ℕ → Type 0
  AtTop lead x y = (t : ℕ) × (is_member t (search_roots forest lead x) ≡ true) × ((y ≡ t) ⊎ (is_member y (descendants_in_order forest t) ≡ true))

  below_top : (x y : ℕ) → is_member x (ancestors forest y) ≡ true → is_member y (descendants_in_order forest x) ≡ true
  below_top x y a = lines.below_above x y ∙ a

  itself_in : (x : ℕ) → is_member x (x ∷ []) ≡ true
  itself_in x = or_left (x == x) false (eq-eqb x x refl)

  beyond_top : (x y : ℕ) → Beyond x y → (t : ℕ) × (is_member t (later forest false x) ≡ true) × ((y ≡ t) ⊎ (is_member y (descendants_in_order forest t) ≡ true))
  beyond_top x y (t, there, inl e) = (t, there, inl e)
  beyond_top x y (t, there, inr a) = (t, there, inr (below_top t y a))

  at_top : (lead : Combinator) (steps : Steps) (x w y : ℕ) → CombinatorHolds forest lead x w → StepsMatch steps forest x w y → AtTop lead x y
  unfolding CombinatorHolds
  at_top Descendant steps x w y s l = (x, itself_in x, inr (below_top x y (led_below steps x x w y l s)))
  at_top Child steps x w y s l = (x, itself_in x, inr (below_top x y (led_below steps x x w y l (ap (is_member x) (lines.up w x s) ∙ or_left (x == x) _ (eq-eqb x x refl)))))
  at_top Adjacent steps x w y s l = beyond_top x y (led_beyond steps x x w y l (w, lines.after_before x w ∙ first_stands forest (earlier forest w) x s, inl refl))
  at_top Sibling steps x w y s l = beyond_top x y (led_beyond steps x x w y l (w, lines.after_before x w ∙ s, inl refl))

  module _ (lead : Combinator) (first : CompoundSelector) (steps : Steps) (x : ℕ) where
    -- what is reached is led to
    pub led_to : (t : ℕ) → MatchesWithin (Relative lead x) first steps forest t → RelativeMatches lead first steps forest x
    led_to t (y, there, (el, (w, begins, leads))) = (w, y, begins.0, begins.1, exempt_first steps x w y el leads, el)

    -- and what is led to is reached within one of the search_roots
    pub reached_from : RelativeMatches lead first steps forest x → (t : ℕ) × (is_member t (search_roots forest lead x) ≡ true) × MatchesWithin (Relative lead x) first steps forest t
    reached_from (w, y, joined, holds, leads, el) =
        let top = at_top lead steps x w y joined.0 leads in
        (top.0, top.1, (y, top.2, (el, (w, (joined, holds), exempt_last steps x w y (stands_precedes forest lines lead x w joined.0) leads))))

-- the search_roots one after the other

module _ (forest : Forest) (lines : AreLines forest) (k : Combinator) where
  tops_row : (next : Option ℕ) → is_sideways k ≡ true → search_roots_from forest k next ≡ row_on forest false next
  tops_row None e = refl
  tops_row (Some t) e = ap (λ (b : Bool). t ∷ (if b then later forest false t else [])) e

  pub tops_first : (x : ℕ) (next : Option ℕ) → is_sideways k ≡ true → next ≡ after (siblings forest x) x → search_roots_from forest k next ≡ search_roots forest k x
  tops_first x next e is =
      tops_row next e ∙ ap (row_on forest false) is ∙ sym (lines.beside false x) ∙ sym (ap (λ (b : Bool). if b then later forest false x else x ∷ []) e)

  pub tops_next : (at : ℕ) (next : Option ℕ) → is_sideways k ≡ true → next ≡ after (siblings forest at) at → search_roots_from forest k (Some at) ≡ at ∷ search_roots_from forest k next
  tops_next at next e is =
      tops_row (Some at) e ∙ ap (λ ns. at ∷ ns) (lines.beside false at ∙ sym (ap (row_on forest false) is) ∙ sym (tops_row next e))

  pub tops_alone : (x : ℕ) → is_sideways k ≡ false → search_roots_from forest k (Some x) ≡ search_roots forest k x
  tops_alone x e = ap (λ (b : Bool). x ∷ (if b then later forest false x else [])) e ∙ sym (ap (λ (b : Bool). if b then later forest false x else x ∷ []) e)

  pub tops_last : (at : ℕ) → is_sideways k ≡ false → search_roots_from forest k (Some at) ≡ at ∷ []
  tops_last at e = ap (λ (b : Bool). at ∷ (if b then later forest false at else [])) e

-- who stands in the list, but isn't the first, stands in the rest
pub stands_on : (all rest : List ℕ) (at t : ℕ) → all ≡ at ∷ rest → is_member t all ≡ true → (t ≡ at → ⊥) → is_member t rest ≡ true
stands_on all rest at t e s other = elim (or_cases (at == t) (is_member t rest) (sym (ap (is_member t) e) ∙ s)) [
  | inl here ↦ absurd (other (sym (eqb-true at t here)))
  | inr there ↦ there
]

-- a node beside itself is the one that is exempt
pub beside_itself : (forest : Forest) (k : Combinator) (x : ℕ) → MayBeOperand forest x k x
beside_itself forest Descendant x = tt
beside_itself forest Child x = tt
beside_itself forest Adjacent x = inl refl
beside_itself forest Sibling x = inl refl

pub joined_if : (forest : Forest) (k : Combinator) (x w : ℕ) (b : Bool) → MayBeOperand forest x k w → (IsTrue b ↔ CombinatorHolds forest k x w) → IsTrue b ↔ IsJoined forest x k x w
joined_if forest k x w b may fact = ((λ t. (fact.0 t, beside_itself forest k x, may)), λ j. fact.1 j.0)

-- what is asked of the last node, by the start
pub ends_if : (start : Start) (first : CompoundSelector) (steps : Steps) (forest : Forest) (n : ℕ) (b : Bool) → may_be_subject start forest n ≡ true
    → (IsTrue b ↔ ChainMatches (Begins start first forest) steps forest n n) → IsTrue b ↔ SelectorMatches start first steps forest n
ends_if Absolute first steps forest n b may (to, back) = ((λ t. let r = to t in (r.0, r.1, r.2)), λ r. back (r.0, r.1, r.2))
ends_if (Relative k x) first steps forest n b may fact = ((λ t. (may, fact.0 t)), λ r. fact.1 r.1)

pub alone_matches : (first : Compound) (steps : List Step) (forest : Forest) (n : ℕ) (b : Bool) → (length steps == 0) ≡ true → (IsTrue b ↔ Holds (read_compound first) forest n) → IsTrue b ↔ CompoundsMatch Absolute first steps forest n
alone_matches first steps forest n b none fact =
    ends_if Absolute (read_compound first) (steps_of (map read_step steps)) forest n b refl (chain_alone forest n (Begins Absolute (read_compound first) forest) (map read_step steps) n b (ap (map read_step) (is_nil steps none)) fact)

pub never_ends : (start : Start) (first : CompoundSelector) (steps : Steps) (forest : Forest) (n : ℕ) → may_be_subject start forest n ≡ false → SelectorMatches start first steps forest n → ⊥
never_ends Absolute first steps forest n never r = true≢false never
never_ends (Relative k x) first steps forest n never r = true≢false (sym r.0 ∙ never)

-- the way to the left, until one node is met

abbrev pub Meeting : Forest → Combinator → ℕ → ℕ → Type 0
Meeting forest k x n = SomeOnLine (ends_at forest k) (λ m. m ≡ x) (line forest k n)

module _ (forest : Forest) (lines : AreLines forest) (k : Combinator) (x : ℕ) where
  abbrev Meets : ℕ → Type 0
  Meets n = Meeting forest k x n

  pub stands_here : (id at v : ℕ) (b : Bool) → (Meets at → Meets id) → left_of forest k at ≡ Some v → v ≡ x → b ≡ true → IsTrue b ↔ CombinatorHolds forest k x id
  stands_here id at v b back link is fact = ((λ t. stands_on_line forest lines k id x (back (left_here forest k (λ m. m ≡ x) lines at v link is))), λ s. fact)

  pub stands_ended : (id at v : ℕ) → (Meets id → Meets at) → left_of forest k at ≡ Some v → (v ≡ x → ⊥) → ends_at forest k v ≡ true → IsTrue false ↔ CombinatorHolds forest k x id
  stands_ended id at v forth link other end = ((λ t. absurd (true≢false (sym t))), λ s. absurd (left_ends forest k (λ m. m ≡ x) lines at v link other end (forth (to_line (λ m. m ≡ x) forest k id x lines s refl))))

  pub stands_nowhere : (id at : ℕ) → (Meets id → Meets at) → left_of forest k at ≡ None → IsTrue false ↔ CombinatorHolds forest k x id
  stands_nowhere id at forth link = ((λ t. absurd (true≢false (sym t))), λ s. absurd (left_nowhere forest k (λ m. m ≡ x) lines at link (forth (to_line (λ m. m ≡ x) forest k id x lines s refl))))

  pub shorter_line : (at v : ℕ) → left_of forest k at ≡ Some v → length (line forest k v) < length (line forest k at)
  shorter_line at v link = let is = ap length (line_some forest k at v lines link) in omega arith

  pub meets_farther : (at v : ℕ) → left_of forest k at ≡ Some v → (v ≡ x → ⊥) → ends_at forest k v ≡ false → Meets at ↔ Meets v
  meets_farther at v link other goes = left_farther forest k (λ m. m ≡ x) lines at v link other goes

pub stands_first : (n : ℕ) (ns : List ℕ) → is_member n (n ∷ ns) ≡ true
stands_first n ns = or_left (n == n) (is_member n ns) (eq-eqb n n refl)

-- the selectors of a list, one after the other

module _ (selectors : List Selector) (i : ℕ) (s : Selector) (within : i < length selectors) (is : s ≡ get_or selectors i s) where
  list_from : read_list (drop i selectors) ≡ alternative (out-Selector s).lead (read_compound (out-Selector s).first) (steps_of (map read_step (out-Selector s).rest.items)) (read_list (drop (i + 1) selectors))
  list_from = ap read_list (drop_more selectors i s within ∙ ap (λ x. x ∷ drop (i + 1) selectors) (sym is)) ∙ ap (λ r. alternative r.0 r.1 r.2 (read_list (drop (i + 1) selectors))) (read_selector_is s)

  pub list_lighter : selectors_weight (read_list (drop (i + 1) selectors)) ≤ selectors_weight (read_list (drop i selectors))
  list_lighter = let same = ap selectors_weight list_from in omega arith

module _ (selectors : List Selector) (i : ℕ) (s : Selector) (rest : List Step) (forest : Forest) (n : ℕ) (b : Bool) (within : i < length selectors) (is : s ≡ get_or selectors i s) (steps : rest ≡ (out-Selector s).rest.items)
    (fact : IsTrue b ↔ RelativeMatches (out-Selector s).lead (read_compound (out-Selector s).first) (steps_of (map read_step rest)) forest n) where
  some : IsTrue b ↔ RelativeMatches (out-Selector s).lead (read_compound (out-Selector s).first) (steps_of (map read_step (out-Selector s).rest.items)) forest n
  some = subst (λ r. IsTrue b ↔ RelativeMatches (out-Selector s).lead (read_compound (out-Selector s).first) (steps_of (map read_step r)) forest n) steps fact

  pub steps_here : b ≡ true → HasHolds (read_list (drop i selectors)) forest n
  steps_here e = subst (λ l. HasHolds l forest n) (sym (list_from selectors i s within is)) (inl (some.0 e))

  pub steps_later : b ≡ false → HasHolds (read_list (drop (i + 1) selectors)) forest n ↔ HasHolds (read_list (drop i selectors)) forest n
  steps_later e = (λ h. subst (λ l. HasHolds l forest n) (sym (list_from selectors i s within is)) (inr h), λ h. others (subst (λ l. HasHolds l forest n) (list_from selectors i s within is) h))
    where
      others : RelativeMatches (out-Selector s).lead (read_compound (out-Selector s).first) (steps_of (map read_step (out-Selector s).rest.items)) forest n ⊎ HasHolds (read_list (drop (i + 1) selectors)) forest n → HasHolds (read_list (drop (i + 1) selectors)) forest n
      others (inl here) = absurd (true≢false (sym (some.1 here) ∙ e))
      others (inr h) = h

-- the same of selectors that mean a node
module _ (selectors : List Selector) (i : ℕ) (s : Selector) (rest : List Step) (forest : Forest) (n : ℕ) (b : Bool) (within : i < length selectors) (is : s ≡ get_or selectors i s) (steps : rest ≡ (out-Selector s).rest.items)
    (fact : IsTrue b ↔ ChainMatches (Holds (read_compound (out-Selector s).first) forest) (steps_of (map read_step rest)) forest n n) where
  one : IsTrue b ↔ ChainMatches (Holds (read_compound (out-Selector s).first) forest) (steps_of (map read_step (out-Selector s).rest.items)) forest n n
  one = subst (λ r. IsTrue b ↔ ChainMatches (Holds (read_compound (out-Selector s).first) forest) (steps_of (map read_step r)) forest n n) steps fact

  pub means_later : b ≡ false → MatchesNode (read_list (drop (i + 1) selectors)) forest n ↔ MatchesNode (read_list (drop i selectors)) forest n
  means_later e = (λ h. subst (λ l. MatchesNode l forest n) (sym (list_from selectors i s within is)) (inr h), λ h. others (subst (λ l. MatchesNode l forest n) (list_from selectors i s within is) h))
    where
      others : ChainMatches (Holds (read_compound (out-Selector s).first) forest) (steps_of (map read_step (out-Selector s).rest.items)) forest n n ⊎ MatchesNode (read_list (drop (i + 1) selectors)) forest n → MatchesNode (read_list (drop (i + 1) selectors)) forest n
      others (inl here) = absurd (true≢false (sym (one.1 here) ∙ e))
      others (inr h) = h
