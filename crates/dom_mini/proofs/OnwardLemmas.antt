-- A node with what is below it, its later siblings and what is below those: each once, and all that a path leads to.
use Rattle.std.proofs.Common.{◌≡◌, ◌⊎◌, ◌<◌, ℕ, suc, List, [], ◌∷◌, ◌++◌, Bool, true, false, true≢false, Option, Some, None, inl, inr, refl, sym, ap, ◌∙◌, subst, length, length-drop, arith}
use Rattle.std.specs.Prelude.{◌==◌}
use Rattle.std.proofs.lemmas.Bool.{eqb-true, eq-eqb, or_cases, or_left, or_right}
use Rattle.dom_links.specs.Forest.{Forest, siblings}
use Rattle.dom_links.specs.Laws.{AreLines, AreTrees}
use Rattle.dom_links.specs.Lists.{IsDistinct, after, is_member}
use Rattle.dom_links.specs.Trees.{ancestors, trees, walk, descendants_in_order}
use Rattle.dom_links.specs.Walk.{IsWithin, later, row_on}
use Rattle.dom_links.proofs.forest.Neighbours.{distinct-append, is_member-append}
use Rattle.dom_selectors.specs.declared.syntax.Combinator.{Combinator}
use Rattle.dom_selectors.specs.declared.syntax.Combinator.TheVariants.{Descendant, Child, Adjacent, Sibling}
use Rattle.dom_selectors.specs.MiniSyntax.{Mini, combinator_of}
use Rattle.dom_select.specs.Leftward.{earlier}
use Rattle.dom_select.specs.Meaning.{CombinatorHolds, Leads}
use Rattle.dom_mini.specs.MiniPaths.{AreLedTo, IsFound, PathLeads, onward, steps_of_path}
use Rattle.dom_select.proofs.FollowLemmas.{apart, stands_precedes}
use Rattle.dom_select.proofs.RowLemmas.{first_stands, on_above, on_earlier, parent_first, same_above, stands_farther}
use Rattle.dom_select.proofs.SelectionLemmas.{filters-all, filters-among, filters-distinct}

some_stands : (ns : List ℕ) (n : ℕ) → is_member n ns ≡ true → 0 < length ns
some_stands [] n s = cc
some_stands (m ∷ ns) n s = omega arith

here : (n : ℕ) (ns : List ℕ) → is_member n (n ∷ ns) ≡ true
here n ns = or_left (n == n) (is_member n ns) (eq-eqb n n refl)

no_item : (n : ℕ) (ns : List ℕ) → [] ≡ n ∷ ns → ⊥
no_item n ns e = cc

module _ (forest : Forest) (lines : AreLines forest) where
  deeper : (n s : ℕ) → is_member s (ancestors forest n) ≡ true → length (ancestors forest s) < length (ancestors forest n)
  deeper n s h =
      let far = on_above forest lines n s h in
      let some = some_stands (ancestors forest n) s h in
      let same = ap length far.1 ∙ length-drop (suc far.0) (ancestors forest n) in
      omega arith

  level_apart : (p n s : ℕ) → p ≡ n → is_member s (ancestors forest p) ≡ true → length (ancestors forest n) ≡ length (ancestors forest s) → ⊥
  level_apart p n s e h same = let less = deeper p s h in let at = ap (λ k. length (ancestors forest k)) e in omega arith

  -- of the nodes above a node no two are as far up
  one_above : (ns : List ℕ) (m n s : ℕ) → ancestors forest m ≡ ns → is_member n ns ≡ true → is_member s ns ≡ true → length (ancestors forest n) ≡ length (ancestors forest s) → n ≡ s
  one_above [] m n s e in_n in_s same = absurd (true≢false (sym in_n))
  one_above (p ∷ ps) m n s e in_n in_s same =
      let both : p ∷ ancestors forest p ≡ p ∷ ps = sym (lines.up m p (parent_first forest lines m p ps e)) ∙ e in
      let rest : ancestors forest p ≡ ps = cc in
      elim (or_cases (p == n) (is_member n ps) in_n) [
        | inl a ↦ elim (or_cases (p == s) (is_member s ps) in_s) [
          | inl b ↦ sym (eqb-true p n a) ∙ eqb-true p s b
          | inr b ↦ absurd (level_apart p n s (eqb-true p n a) (ap (is_member s) rest ∙ b) same)
        ]
        | inr a ↦ elim (or_cases (p == s) (is_member s ps) in_s) [
          | inl b ↦ absurd (level_apart p s n (eqb-true p s b) (ap (is_member n) rest ∙ a) (sym same))
          | inr b ↦ one_above ps p n s rest a b same
        ]
      ]

  -- siblings have the same ancestors, and differ
  level : (n s : ℕ) → is_member s (later forest false n) ≡ true → ancestors forest n ≡ ancestors forest s
  level n s h = same_above forest lines s n (sym (lines.after_before n s) ∙ h)

  beside_apart : (n s : ℕ) → is_member s (later forest false n) ≡ true → n ≡ s → ⊥
  unfolding CombinatorHolds
  beside_apart n s h e = apart forest n s (stands_precedes forest lines Sibling n s (sym (lines.after_before n s) ∙ h)) e

  later_then : (x s v : ℕ) → is_member s (later forest false x) ≡ true → is_member v (later forest false s) ≡ true → is_member v (later forest false x) ≡ true
  later_then x s v a b =
      let far = on_earlier forest lines v s (sym (lines.after_before s v) ∙ b) in
      let before_s : is_member x (earlier forest s) ≡ true = sym (lines.after_before x s) ∙ a in
      lines.after_before x v ∙ stands_farther (suc far.0) (earlier forest v) x (sym (ap (is_member x) far.1) ∙ before_s)

  -- s is x or a later sibling, and m is s or below it
  abbrev Beside : ℕ → ℕ → Type 0
  Beside x s = is_member s (x ∷ later forest false x) ≡ true

  abbrev AtOrBelow : ℕ → ℕ → Type 0
  AtOrBelow s m = (m ≡ s) ⊎ (is_member s (ancestors forest m) ≡ true)

  abbrev IsOnward : ℕ → ℕ → Type 0
  IsOnward x m = (s : ℕ) × Beside x s × AtOrBelow s m

  beside_then : (x s v : ℕ) → Beside x s → is_member v (later forest false s) ≡ true → Beside x v
  beside_then x s v beside h = or_right (x == v) (is_member v (later forest false x)) (elim (or_cases (x == s) (is_member s (later forest false x)) beside) [
    | inl e ↦ subst (λ u. is_member v (later forest false u) ≡ true) (sym (eqb-true x s e)) h
    | inr t ↦ later_then x s v t h
  ])

  above : (v w s : ℕ) → is_member w (ancestors forest v) ≡ true → AtOrBelow s w → is_member s (ancestors forest v) ≡ true
  above v w s h (inl e) = subst (λ u. is_member u (ancestors forest v) ≡ true) e h
  above v w s h (inr t) = let far = on_above forest lines v w h in stands_farther (suc far.0) (ancestors forest v) s (sym (ap (is_member s) far.1) ∙ t)

  then_beside : (x w v s : ℕ) → is_member w (earlier forest v) ≡ true → Beside x s → AtOrBelow s w → IsOnward x v
  then_beside x w v s h beside (inl e) = (v, beside_then x s v beside (subst (λ u. is_member v (later forest false u) ≡ true) e (lines.after_before w v ∙ h)), inl refl)
  then_beside x w v s h beside (inr t) = (s, beside, inr (sym (ap (is_member s) (same_above forest lines v w h)) ∙ t))

  onward_beside : (x w v : ℕ) → is_member w (earlier forest v) ≡ true → IsOnward x w → IsOnward x v
  onward_beside x w v h on = then_beside x w v on.0 h on.1 on.2

  onward_step : (k : Combinator) (x w v : ℕ) → CombinatorHolds forest k w v → IsOnward x w → IsOnward x v
  unfolding CombinatorHolds
  onward_step Descendant x w v h on = (on.0, on.1, inr (above v w on.0 h on.2))
  onward_step Child x w v h on = (on.0, on.1, inr (above v w on.0 (ap (is_member w) (lines.up v w h) ∙ here w (ancestors forest w)) on.2))
  onward_step Adjacent x w v h on = onward_beside x w v (first_stands forest (earlier forest v) w h) on
  onward_step Sibling x w v h on = onward_beside x w v h on

  led_onward : (minis : List Mini) (x w n : ℕ) → IsOnward x w → Leads (steps_of_path minis forest) forest x w n → IsOnward x n
  led_onward [] x w n on e = subst (IsOnward x) e on
  led_onward (mini ∷ minis) x w n on l = led_onward minis x l.0 n (onward_step (combinator_of mini) x w l.0 l.1.0 on) l.3

  -- the node after n in its list, and those after that one
  next_of : (n s : ℕ) (ss : List ℕ) (o : Option ℕ) → after (siblings forest n) n ≡ o → later forest false n ≡ s ∷ ss → (s < length forest.content) × (later forest false s ≡ ss)
  next_of n s ss None is e =
      absurd (no_item s ss (sym (lines.beside false n ∙ ap (row_on forest false) is) ∙ e))
  next_of n s ss (Some q) is e =
      let both : q ∷ later forest false q ≡ s ∷ ss = sym (lines.beside false n ∙ ap (row_on forest false) is) ∙ e in
      let same : q ≡ s = cc in
      let rest : later forest false q ≡ ss = cc in
      let known : IsWithin forest (Some q) = subst (IsWithin forest) is (lines.beside_known false n) in
      (subst (λ k. k < length forest.content) same known, ap (later forest false) (sym same) ∙ rest)

  next : (n s : ℕ) (ss : List ℕ) → later forest false n ≡ s ∷ ss → (s < length forest.content) × (later forest false s ≡ ss)
  next n s ss e = next_of n s ss (after (siblings forest n) n) refl e

  row : (n s : ℕ) (ss : List ℕ) → later forest false n ≡ s ∷ ss → later forest false n ≡ s ∷ later forest false s
  row n s ss e = e ∙ ap (λ ls. s ∷ ls) (sym (next n s ss e).1)

  abbrev beyond : ℕ → List ℕ
  beyond n = walk (trees forest (later forest false n))

  onward_is : (n : ℕ) → n < length forest.content → onward forest n ≡ n ∷ (descendants_in_order forest n ++ beyond n)
  onward_is n known = ap walk (lines.row_trees n known)

  beyond_is : (n s : ℕ) (ss : List ℕ) → later forest false n ≡ s ∷ ss → beyond n ≡ onward forest s
  beyond_is n s ss e = ap (λ ns. walk (trees forest ns)) (row n s ss e)

  stands_first : (n m : ℕ) → n < length forest.content → AtOrBelow n m → is_member m (onward forest n) ≡ true
  stands_first n m known (inl e) = ap (is_member m) (onward_is n known) ∙ or_left (n == m) (is_member m (descendants_in_order forest n ++ beyond n)) (eq-eqb n m (sym e))
  stands_first n m known (inr t) =
      ap (is_member m) (onward_is n known)
      ∙ or_right (n == m) (is_member m (descendants_in_order forest n ++ beyond n)) (is_member-append (descendants_in_order forest n) (beyond n) m ∙ or_left (is_member m (descendants_in_order forest n)) (is_member m (beyond n)) (lines.below_above n m ∙ t))

  stands_beyond : (n m : ℕ) → n < length forest.content → is_member m (beyond n) ≡ true → is_member m (onward forest n) ≡ true
  stands_beyond n m known t =
      ap (is_member m) (onward_is n known)
      ∙ or_right (n == m) (is_member m (descendants_in_order forest n ++ beyond n)) (is_member-append (descendants_in_order forest n) (beyond n) m ∙ or_right (is_member m (descendants_in_order forest n)) (is_member m (beyond n)) t)

  in_onward : (ns : List ℕ) (n s m : ℕ) → n < length forest.content → later forest false n ≡ ns → Beside n s → AtOrBelow s m → is_member m (onward forest n) ≡ true
  in_onward [] n s m known e beside at = elim (or_cases (n == s) (is_member s (later forest false n)) beside) [
    | inl same ↦ stands_first n m known (subst (λ u. AtOrBelow u m) (sym (eqb-true n s same)) at)
    | inr t ↦ absurd (true≢false (sym t ∙ ap (is_member s) e))
  ]
  in_onward (v ∷ vs) n s m known e beside at = elim (or_cases (n == s) (is_member s (later forest false n)) beside) [
    | inl same ↦ stands_first n m known (subst (λ u. AtOrBelow u m) (sym (eqb-true n s same)) at)
    | inr t ↦
        let on = next n v vs e in
        stands_beyond n m known (ap (is_member m) (beyond_is n v vs e) ∙ in_onward vs v s m on.0 on.1 (sym (ap (is_member s) (row n v vs e)) ∙ t) at)
  ]

  module _ (whole : AreTrees forest) where
    none_beyond : (n m : ℕ) → later forest false n ≡ [] → is_member m (beyond n) ≡ true → ⊥
    none_beyond n m e t = true≢false (sym t ∙ ap (is_member m) (ap (λ ns. walk (trees forest ns)) e ∙ ap walk whole.no_trees))

    below_it : (n m : ℕ) → n < length forest.content → is_member m (onward forest n) ≡ true → AtOrBelow n m ⊎ (is_member m (beyond n) ≡ true)
    below_it n m known h = elim (or_cases (n == m) (is_member m (descendants_in_order forest n ++ beyond n)) (sym (ap (is_member m) (onward_is n known)) ∙ h)) [
      | inl same ↦ inl (inl (sym (eqb-true n m same)))
      | inr u ↦ elim (or_cases (is_member m (descendants_in_order forest n)) (is_member m (beyond n)) (sym (is_member-append (descendants_in_order forest n) (beyond n) m) ∙ u)) [
        | inl b ↦ inl (inr (sym (lines.below_above n m) ∙ b))
        | inr b ↦ inr b
      ]
    ]

    from_onward : (ns : List ℕ) (n m : ℕ) → n < length forest.content → later forest false n ≡ ns → is_member m (onward forest n) ≡ true → IsOnward n m
    from_onward [] n m known e h = elim (below_it n m known h) [
      | inl at ↦ (n, here n (later forest false n), at)
      | inr b ↦ absurd (none_beyond n m e b)
    ]
    from_onward (v ∷ vs) n m known e h = elim (below_it n m known h) [
      | inl at ↦ (n, here n (later forest false n), at)
      | inr b ↦
          let behind = next n v vs e in
          let on = from_onward vs v m behind.0 behind.1 (sym (ap (is_member m) (beyond_is n v vs e)) ∙ b) in
          (on.0, or_right (n == on.0) (is_member on.0 (later forest false n)) (ap (is_member on.0) (row n v vs e) ∙ on.1), on.2)
    ]

    from_beyond : (ns : List ℕ) (n m : ℕ) → later forest false n ≡ ns → is_member m (beyond n) ≡ true → (s : ℕ) × (is_member s (later forest false n) ≡ true) × AtOrBelow s m
    from_beyond [] n m e b = absurd (none_beyond n m e b)
    from_beyond (v ∷ vs) n m e b =
        let behind = next n v vs e in
        let on = from_onward vs v m behind.0 behind.1 (sym (ap (is_member m) (beyond_is n v vs e)) ∙ b) in
        (on.0, ap (is_member on.0) (row n v vs e) ∙ on.1, on.2)

    not_above : (n : ℕ) → is_member n (ancestors forest n) ≡ true → ⊥
    not_above n h = let less = deeper n n h in omega arith

    cross : (n s m : ℕ) → is_member s (later forest false n) ≡ true → ancestors forest n ≡ ancestors forest s → AtOrBelow n m → AtOrBelow s m → ⊥
    cross n s m stands same (inl e) (inl f) = beside_apart n s stands (sym e ∙ f)
    cross n s m stands same (inl e) (inr t) = not_above s (sym (ap (is_member s) (ap (ancestors forest) e ∙ same)) ∙ t)
    cross n s m stands same (inr t) (inl f) = not_above n (sym (ap (is_member n) (ap (ancestors forest) f ∙ sym same)) ∙ t)
    cross n s m stands same (inr t) (inr u) = beside_apart n s stands (one_above (ancestors forest m) m n s refl t u (ap length same))

    -- what is beyond n is neither n nor below it
    apart_beyond : (n m : ℕ) → AtOrBelow n m → is_member m (beyond n) ≡ true → ⊥
    apart_beyond n m at b = let on = from_beyond (later forest false n) n m refl b in cross n on.0 m on.1 (level n on.0 on.1) at on.2

    again : (n : ℕ) → is_member n (descendants_in_order forest n ++ beyond n) ≡ true → ⊥
    again n u = elim (or_cases (is_member n (descendants_in_order forest n)) (is_member n (beyond n)) (sym (is_member-append (descendants_in_order forest n) (beyond n) n) ∙ u)) [
      | inl b ↦ not_above n (sym (lines.below_above n n) ∙ b)
      | inr b ↦ apart_beyond n n (inl refl) b
    ]

    never : (b : Bool) → (b ≡ true → ⊥) → b ≡ false
    never true h = absurd (h refl)
    never false h = refl

    joined : (n : ℕ) → n < length forest.content → IsDistinct (beyond n) → IsDistinct (onward forest n)
    joined n known rest = subst IsDistinct (sym (onward_is n known)) (
      never (is_member n (descendants_in_order forest n ++ beyond n)) (again n),
      distinct-append (descendants_in_order forest n) (beyond n) (whole.walk_once n) rest (λ m t. never (is_member m (beyond n)) (apart_beyond n m (inr (sym (lines.below_above n m) ∙ t)))),
    )

    onward_once : (ns : List ℕ) (n : ℕ) → n < length forest.content → later forest false n ≡ ns → IsDistinct (onward forest n)
    onward_once [] n known e = joined n known (subst IsDistinct (sym (ap (λ ns. walk (trees forest ns)) e ∙ ap walk whole.no_trees)) tt)
    onward_once (v ∷ vs) n known e =
        let behind = next n v vs e in joined n known (subst IsDistinct (sym (beyond_is n v vs e)) (onward_once vs v behind.0 behind.1))

    -- what is found are the nodes that the path leads to, each once
    pub found_led : (minis : List Mini) (x : ℕ) (found : List ℕ) → x < length forest.content → IsFound minis forest x found → AreLedTo minis forest x found
    found_led minis x found known h =
        let P : ℕ → Type 0 = λ n. (x < length forest.content) × PathLeads minis forest x n in
        let at : (n : ℕ) → PathLeads minis forest x n → is_member n (onward forest x) ≡ true = λ n l.
        let on = led_onward minis x x n (x, here x (later forest false x), inl refl) l in in_onward (later forest false x) x on.0 n known refl on.1 on.2
        in
        record {
          led = λ n s. (filters-among P (onward forest x) found h n s).1.1;
          all = λ n l. filters-all P (onward forest x) found h n (at n l) (known, l);
          once = filters-distinct P (onward forest x) found (onward_once (later forest false x) x known refl) h;
        }
