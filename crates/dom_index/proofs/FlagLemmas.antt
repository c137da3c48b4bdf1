-- The flags at a node by those at the next node to its left.
use Rattle.std.proofs.Common.{◌≡◌, ◌↔◌, ◌⊎◌, ◌<◌, ℕ, zero, suc, List, [], ◌∷◌, ◌++◌, Bool, true, false, true≢false, Option, Some, None, inl, inr, refl, sym, ap, ◌∙◌, subst, length, slice_get, take, map, add-one, arith}
use Rattle.std.specs.Prelude.{◌&&◌, not, slice_index_or}
use Rattle.std.specs.Option.{option_map}
use Rattle.std.proofs.lemmas.List.{nil_from_length, take_all, take_more}
use Rattle.std.proofs.Math.ListN.{get_or}
use Rattle.std.proofs.lemmas.Option.{none-some, same_Some, slice_get_within, slice_get-map, slice_get-get_or, get_or_from_slice_get}
use Rattle.dom_selectors.specs.declared.syntax.Step.{Step}
use Rattle.dom_selectors.specs.ValuesAsTrees.{read_step}
use Rattle.dom_selectors.proofs.Layers.{read_step_is}
use Rattle.dom_links.specs.Forest.{Forest, parent, siblings}
use Rattle.dom_links.specs.Lists.{before}
use Rattle.dom_links.specs.Laws.{AreLines}
use Rattle.dom_links.specs.Sound.{IsForest}
use Rattle.dom_selectors.specs.declared.syntax.Combinator.{Combinator}
use Rattle.dom_selectors.specs.declared.syntax.Combinator.TheVariants.{Descendant, Child, Adjacent, Sibling}
use Rattle.dom_selectors.specs.ListsAsTrees.{steps_of}
use Rattle.dom_selectors.specs.Spelling.{Decides}
use Rattle.dom_selectors.specs.Syntax.{CompoundSelector}
use Rattle.dom_select.specs.Leftward.{ends_at, left_of, line}
use Rattle.dom_select.specs.Meaning.{ChainMatches, Holds}
use Rattle.dom_select.proofs.FollowLemmas.{stands_precedes}
use Rattle.dom_select.proofs.ReachLemmas.{SomeOnLine, from_line, to_line, line_some, line_none, from_chain, to_chain}
use Rattle.dom_index.specs.FlagRows.{AreAlong, AreFlags, HasLeft, Propagates, PropagatesFrom, StepsReach, compound_at, is_sideways, reached_at}
use Rattle.dom_index.specs.NodeSets.{may_be_operand}
use Rattle.dom_index.proofs.ChainLemmas.{may_itself, may_serve, must_serve, reached_fit, sparing_here, sparing_there, both_true}
use Rattle.dom_index.proofs.ForwardLemmas.{decided_by}

abbrev pub Chain : Type 0
Chain = List (Combinator × CompoundSelector)

module _ (forest : Forest) (lines : AreLines forest) (k : Combinator) (Q : ℕ → Type 0) where
  abbrev IsOperand : ℕ → Type 0
  IsOperand v = (may_be_operand forest k v ≡ true) × Q v

  -- a left operand is reached by the next node to the left
  pub left_by_next : (n : ℕ) (o : Option ℕ) → left_of forest k n ≡ o → PropagatesFrom forest k Q o → HasLeft forest k Q n
  left_by_next n None e h = absurd h
  left_by_next n (Some v) e (inl q) = from_line IsOperand forest k n lines (subst (SomeOnLine (ends_at forest k) IsOperand) (sym (line_some forest k n v lines e)) (inl q))
  left_by_next n (Some v) e (inr h) =
      let farther = to_line IsOperand forest k v h.1.0 lines h.1.1 h.1.2 in
      from_line IsOperand forest k n lines (subst (SomeOnLine (ends_at forest k) IsOperand) (sym (line_some forest k n v lines e)) (inr (h.0, farther)))

  pub next_by_left : (n : ℕ) (o : Option ℕ) → left_of forest k n ≡ o → HasLeft forest k Q n → PropagatesFrom forest k Q o
  next_by_left n None e h = subst (SomeOnLine (ends_at forest k) IsOperand) (line_none forest k n lines e) (to_line IsOperand forest k n h.0 lines h.1 h.2)
  next_by_left n (Some v) e h = here (subst (SomeOnLine (ends_at forest k) IsOperand) (line_some forest k n v lines e) (to_line IsOperand forest k n h.0 lines h.1 h.2))
    where
      here : SomeOnLine (ends_at forest k) IsOperand (v ∷ line forest k v) → Propagates forest k Q v
      here (inl q) = inl q
      here (inr s) = inr (s.0, from_line IsOperand forest k v lines s.1)

abbrev left_on_side : Forest → Bool → ℕ → Option ℕ
left_on_side forest true n = before (siblings forest n) n
left_on_side forest false n = parent forest n

left_by_side : (forest : Forest) (k : Combinator) (n : ℕ) → left_of forest k n ≡ left_on_side forest (is_sideways k) n
left_by_side forest Descendant n = refl
left_by_side forest Child n = refl
left_by_side forest Adjacent n = refl
left_by_side forest Sibling n = refl

-- combinators that go the same way have the same next node to the left
pub along_left : (forest : Forest) (k way : Combinator) → is_sideways k ≡ is_sideways way → (n : ℕ) → left_of forest k n ≡ left_of forest way n
along_left forest k way same n = left_by_side forest k n ∙ (ap (λ b. left_on_side forest b n) same ∙ sym (left_by_side forest way n))

module _ (forest : Forest) (good : IsForest forest) (lines : AreLines forest) (first : CompoundSelector) (front : Chain) (k : Combinator) (c : CompoundSelector) where
  -- one step more
  pub reach_more : (n : ℕ) → HasLeft forest k (StepsReach forest first front) n → Holds c forest n → StepsReach forest first (front ++ (k, c) ∷ []) n
  reach_more n reached h =
      let v = reached.0 in
      let here = reached.2.1 in
      let there : ChainMatches (Holds first forest) (steps_of front) forest n v = (here.0, here.1, sparing_there forest lines n v (reached_fit forest good lines k v n reached.1 reached.2.0) front here.0 here.2) in
      to_chain forest n (Holds first forest) front (k, c) n (may_itself forest good lines k n, h, (v, reached.1, (may_serve forest good lines k v n reached.2.0, there)))

  pub reach_less : (n : ℕ) → StepsReach forest first (front ++ (k, c) ∷ []) n → HasLeft forest k (StepsReach forest first front) n × Holds c forest n
  reach_less n r =
      let last = from_chain forest n (Holds first forest) front (k, c) n r in
      let v = last.2.0 in
      let there = last.2.2.1 in
      let p = stands_precedes forest lines k v n last.2.1 in
      let here : StepsReach forest first front v = (there.0, there.1, sparing_here forest lines n v p front there.0 there.2) in
      ((v, last.2.1, (must_serve forest good lines k v n p last.2.2.0, here)), last.1)

-- an element that was read
pub read_there : {A : Type 0} (xs : List A) (i : ℕ) (x : A) → i < length xs → x ≡ get_or xs i x → slice_get xs i ≡ Some x
read_there xs i x inside is = slice_get-get_or xs i x inside ∙ ap (λ y. Some y) (sym is)

-- the combinator of a step that was read
pub step_combinator : (steps : List Step) (i : ℕ) (x : Step) → i < length steps → x ≡ get_or steps i x → (s : Combinator × CompoundSelector) → slice_get (map read_step steps) i ≡ Some s → x.combinator ≡ s.0
step_combinator steps i x inside is s at =
    let here : slice_get (map read_step steps) i ≡ Some (read_step x) = slice_get-map read_step steps i ∙ ap (option_map read_step) (read_there steps i x inside is) in
    let same : read_step x ≡ s = same_Some (read_step x) s (sym here ∙ at) in
    ap (λ (r : Combinator × CompoundSelector). r.0) (sym (read_step_is x) ∙ same)

pub take_next : {A : Type 0} (xs : List A) (j : ℕ) (x : A) → slice_get xs j ≡ Some x → take (suc j) xs ≡ take j xs ++ x ∷ []
take_next xs j x is = ap (λ m. take m xs) (sym (add-one j)) ∙ take_more xs j x (slice_get_within xs j x is) ∙ ap (λ y. take j xs ++ y ∷ []) (get_or_from_slice_get xs j x x is)

both_on : (a b : Bool) → a ≡ true → b ≡ true → (a && b) ≡ true
both_on true b e f = f
both_on false b e f = absurd (true≢false (sym e))

pub both_ways : (b : Bool) (P : Type 0) → Decides b P → (b ≡ true → P) × (P → b ≡ true)
both_ways true P h = (λ e. h, λ p. refl)
both_ways false P h = (λ e. absurd (true≢false (sym e)), λ p. absurd (h p))

pub decided_from : (b : Bool) (P : Type 0) → (b ≡ true → P) → (P → b ≡ true) → Decides b P
decided_from true P f g = f refl
decided_from false P f g = λ p. true≢false (sym (g p))

not_ended : (e : Bool) → not e ≡ true → (e ≡ true → ⊥)
not_ended true goes = absurd (true≢false (sym goes))
not_ended false goes = λ never. true≢false (sym never)

goes_farther : (e : Bool) → (e ≡ true → ⊥) → not e ≡ true
goes_farther true never = absurd (never refl)
goes_farther false never = refl

-- the flag to the right of a node, by that at it
flag_next : (forest : Forest) (k : Combinator) (Q : ℕ → Type 0) (n : ℕ) (flag : Bool) → Decides flag (HasLeft forest k Q n) → (b : Bool) →
    ((b ≡ true) ↔ (((may_be_operand forest k n ≡ true) × Q n) ⊎ ((not (ends_at forest k n) ≡ true) × (flag ≡ true)))) → Decides b (Propagates forest k Q n)
flag_next forest k Q n flag left b same =
    let both = both_ways flag (HasLeft forest k Q n) left in
    decided_from b (Propagates forest k Q n)
    (λ e. elim (same.0 e) [
      | inl q ↦ inl q
      | inr x ↦ inr (not_ended (ends_at forest k n) x.0, both.0 x.1)
    ])
    (λ h. elim h [
      | inl q ↦ same.1 (inl q)
      | inr x ↦ same.1 (inr (goes_farther (ends_at forest k n) x.0, both.1 x.1))
    ])

-- the last compound matches where all do
module _ (forest : Forest) (good : IsForest forest) (lines : AreLines forest) (first : CompoundSelector) (steps : Chain) (n : ℕ) where
  step_needed : (j : ℕ) (o : Option (Combinator × CompoundSelector)) → slice_get steps j ≡ o → (c : CompoundSelector) → option_map (λ s. s.1) o ≡ Some c → StepsReach forest first (take (suc j) steps) n → Holds c forest n
  step_needed j None is c at r = absurd (none-some c at)
  step_needed j (Some s) is c at r =
      subst (λ d. Holds d forest n) (same_Some s.1 c at) (reach_less forest good lines first (take j steps) s.0 s.1 n (subst (λ (ss : Chain). StepsReach forest first ss n) (take_next steps j s is) r)).1

  compound_needed : (i : ℕ) (c : CompoundSelector) → compound_at first steps i ≡ Some c → StepsReach forest first (take i steps) n → Holds c forest n
  compound_needed zero c at r = subst (λ d. Holds d forest n) (same_Some first c at) (subst (Holds first forest) r.2 r.1)
  compound_needed (suc j) c at r = step_needed j (slice_get steps j) refl c at r

  pub subject_needed : (i : ℕ) → i ≡ length steps → (c : CompoundSelector) → compound_at first steps i ≡ Some c → StepsReach forest first steps n → Holds c forest n
  subject_needed i e c at r =
      let whole : take i steps ≡ steps = take_all i steps (omega (arith, e)) in
      compound_needed i c at (subst (λ (ss : Chain). StepsReach forest first ss n) (sym whole) r)

-- a compound without steps
pub alone_reaches : (forest : Forest) (first : CompoundSelector) (steps : Chain) (n i : ℕ) → length steps ≡ 0 → i ≡ 0 → (c : CompoundSelector) → compound_at first steps i ≡ Some c → Holds c forest n → StepsReach forest first steps n
alone_reaches forest first steps n i none zeroth c at h =
    let same : first ≡ c = same_Some first c (sym (ap (compound_at first steps) zeroth) ∙ at) in
    subst (λ (ss : Chain). StepsReach forest first ss n) (sym (nil_from_length steps none)) (n, subst (λ d. Holds d forest n) (sym same) h, refl)

module _ (forest : Forest) (good : IsForest forest) (lines : AreLines forest) (first : CompoundSelector) (steps : Chain) (way : Combinator) (along : AreAlong way steps) (n : ℕ) (flags : List Bool) (given : AreFlags forest first steps (left_of forest way n) flags) where
  -- the flag of a step at n
  pub flag_left : (j : ℕ) (s : Combinator × CompoundSelector) → slice_get steps j ≡ Some s → Decides (slice_index_or flags j false) (HasLeft forest s.0 (StepsReach forest first (take j steps)) n)
  flag_left j s is =
      let e = along_left forest s.0 way (along j s is) n in
      let Q = StepsReach forest first (take j steps) in
      decided_by (slice_index_or flags j false) (PropagatesFrom forest s.0 Q (left_of forest way n)) (HasLeft forest s.0 Q n)
      (left_by_next forest lines s.0 Q n (left_of forest way n) e) (next_by_left forest lines s.0 Q n (left_of forest way n) e) (given.each j s is)

  step_reached : (j : ℕ) (o : Option (Combinator × CompoundSelector)) → slice_get steps j ≡ o → (c : CompoundSelector) → option_map (λ s. s.1) o ≡ Some c →
      ((slice_index_or flags j false ≡ true) × Holds c forest n) ↔ StepsReach forest first (take (suc j) steps) n
  step_reached j None is c at = absurd (none-some c at)
  step_reached j (Some s) is c at =
      let Q = StepsReach forest first (take j steps) in
      let both = both_ways (slice_index_or flags j false) (HasLeft forest s.0 Q n) (flag_left j s is) in
      let same : s.1 ≡ c = same_Some s.1 c at in
      let cut = take_next steps j s is in (
        λ x. subst (λ (ss : Chain). StepsReach forest first ss n) (sym cut) (reach_more forest good lines first (take j steps) s.0 s.1 n (both.0 x.0) (subst (λ d. Holds d forest n) (sym same) x.1)),
        λ r. let x = reach_less forest good lines first (take j steps) s.0 s.1 n (subst (λ (ss : Chain). StepsReach forest first ss n) cut r) in (both.1 x.0, subst (λ d. Holds d forest n) same x.1),
      )

  -- the compounds up to that number match n where it is reached and matches n
  pub compound_reached : (i : ℕ) (c : CompoundSelector) → compound_at first steps i ≡ Some c → ((reached_at flags i ≡ true) × Holds c forest n) ↔ StepsReach forest first (take i steps) n
  compound_reached zero c at =
      let same : first ≡ c = same_Some first c at in
      (λ x. (n, subst (λ d. Holds d forest n) (sym same) x.1, refl), λ r. (refl, subst (λ d. Holds d forest n) same (subst (Holds first forest) r.2 r.1)))
  compound_reached (suc j) c at = step_reached j (slice_get steps j) refl c at

  -- and all of them where the last is
  pub subject_reached : (i : ℕ) → i ≡ length steps → (c : CompoundSelector) → compound_at first steps i ≡ Some c → ((reached_at flags i ≡ true) × Holds c forest n) ↔ StepsReach forest first steps n
  subject_reached i e c at =
      let same = compound_reached i c at in
      let whole : take i steps ≡ steps = take_all i steps (omega (arith, e)) in
      (λ x. subst (λ (ss : Chain). StepsReach forest first ss n) whole (same.0 x), λ r. same.1 (subst (λ (ss : Chain). StepsReach forest first ss n) (sym whole) r))

  -- what a step's flag to the right of n is decided by: the flag at n, that n can't be an operand or that its compound isn't reached, or a test
  module _ (j : ℕ) (s : Combinator × CompoundSelector) (is : slice_get steps j ≡ Some s) where
    abbrev Right : Type 0
    Right = PropagatesFrom forest s.0 (StepsReach forest first (take j steps)) (Some n)

    abbrev on : Bool
    on = slice_index_or flags j false

    abbrev goes : Bool
    goes = not (ends_at forest s.0 n)

    flag_right : (b : Bool) → ((b ≡ true) ↔ (((may_be_operand forest s.0 n ≡ true) × StepsReach forest first (take j steps) n) ⊎ ((goes ≡ true) × (on ≡ true)))) → Decides b Right
    flag_right b same = flag_next forest s.0 (StepsReach forest first (take j steps)) n on (flag_left j s is) b same

    pub step_kept : (on && goes) ≡ true → Right
    step_kept kept = let both = both_true on goes kept in flag_right true ((λ e. inr (both.1, both.0)), λ x. refl)

    off_right : (b : Bool) → (on && goes) ≡ false → ((b ≡ true) ↔ ((may_be_operand forest s.0 n ≡ true) × StepsReach forest first (take j steps) n)) → Decides b Right
    off_right b off same = flag_right b (
      (λ e. inl (same.0 e)),
      λ x. elim x [
        | inl r ↦ same.1 r
        | inr y ↦ absurd (true≢false (sym (both_on on goes y.1 y.0) ∙ off))
      ],
    )

    pub step_unfit : (on && goes) ≡ false → may_be_operand forest s.0 n ≡ false → Right → ⊥
    step_unfit off unfit = off_right false off (
      (λ e. absurd (true≢false (sym e))),
      λ x. sym unfit ∙ x.0,
    )

    pub step_unreached : (on && goes) ≡ false → reached_at flags j ≡ false → (c : CompoundSelector) → compound_at first steps j ≡ Some c → Right → ⊥
    step_unreached off unreached c at = off_right false off (
      (λ e. absurd (true≢false (sym e))),
      λ x. sym unreached ∙ ((compound_reached j c at).1 x.1).0,
    )

    pub step_tested : (on && goes) ≡ false → may_be_operand forest s.0 n ≡ true → reached_at flags j ≡ true → (c : CompoundSelector) → compound_at first steps j ≡ Some c → (b : Bool) → Decides b (Holds c forest n) → Decides b Right
    step_tested off fit reached c at b answer =
        let both = both_ways b (Holds c forest n) answer in
        off_right b off ((λ e. (fit, (compound_reached j c at).0 (reached, both.0 e))), λ x. both.1 ((compound_reached j c at).1 x.1).1)

-- what was asked of the combinator that was read of a step is so of the step's
pub asked_of_step : (steps : List Step) (i : ℕ) (x : Step) (Q : Combinator → Bool) (b : Bool) → i < length steps → x ≡ get_or steps i x → b ≡ Q (get_or steps i x).combinator → (s : Combinator × CompoundSelector) → slice_get (map read_step steps) i ≡ Some s → Q s.0 ≡ b
asked_of_step steps i x Q b inside is h s at = sym (h ∙ (ap (λ (y : Step). Q y.combinator) (sym is) ∙ ap Q (step_combinator steps i x inside is s at)))
