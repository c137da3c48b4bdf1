-- Right operands by the nodes of which a node is the next to the left.
use Rattle.std.proofs.Common.{◌≡◌, ◌⊎◌, ◌<◌, ◌≤◌, ◌+◌, ℕ, List, [], ◌∷◌, Bool, true, false, true≢false, Option, Some, None, inl, inr, refl, sym, ap, ◌∙◌, subst, length, set, arith}
use Rattle.std.specs.Prelude.{◌&&◌, ◌||◌, not}
use Rattle.std.proofs.lemmas.Bool.{cases_lt}
use Rattle.std.proofs.lemmas.List.{length-set}
use Rattle.dom_links.specs.Forest.{Forest}
use Rattle.dom_links.specs.Laws.{AreLines}
use Rattle.dom_links.specs.Lists.{before}
use Rattle.dom_links.proofs.forest.Places.{cases_Option}
use Rattle.dom_selectors.specs.declared.syntax.Combinator.{Combinator}
use Rattle.dom_selectors.specs.declared.syntax.Combinator.TheVariants.{Descendant, Child, Adjacent, Sibling}
use Rattle.dom_selectors.specs.Spelling.{Decides}
use Rattle.dom_select.specs.Leftward.{ends_at, left_of, line}
use Rattle.dom_select.specs.Meaning.{CombinatorHolds}
use Rattle.dom_select.proofs.ReachLemmas.{SomeOnLine, from_line, to_line, left_here, line_none, line_some}
use Rattle.dom_index.specs.Orders.{IsOrder, number_at}
use Rattle.dom_index.specs.NodeSets.{HasRightOperand, IsOperandIn, propagates, may_be_operand, with_node, in_set}
use Rattle.dom_index.proofs.FillLemmas.{written_elsewhere, written_here}
use Rattle.dom_index.proofs.ForwardLemmas.{behind_left, decided_by}
use Rattle.dom_index.proofs.PlaceLemmas.{same_or_not}

-- n is an operand in the set, or has a right operand there and propagates that
abbrev pub PassesItOn : Forest → Combinator → List Bool → ℕ → Type 0
PassesItOn forest k table u = IsOperandIn forest k table u ⊎ ((ends_at forest k u ≡ true → ⊥) × HasRightOperand forest k table u)

-- m is flagged by one of the last so many nodes in the preorder
abbrev pub DecidedBy : Forest → Combinator → List Bool → List ℕ → ℕ → ℕ → Type 0
DecidedBy forest k table places i m =
    (u : ℕ) × (u < length forest.content) × (length forest.content ≤ number_at places u + i) × (left_of forest k u ≡ Some m) × PassesItOn forest k table u

none_left : (forest : Forest) → AreLines forest → (k : Combinator) (u m : ℕ) → length forest.content ≤ u → left_of forest k u ≡ Some m → ⊥
none_left forest lines Descendant u m past link = let two = sym (lines.unknown_alone u past).0 ∙ link in cc
none_left forest lines Child u m past link = let two = sym (lines.unknown_alone u past).0 ∙ link in cc
none_left forest lines Adjacent u m past link = let two : None ≡ Some m = sym (ap (λ ns. before ns u) (lines.unknown_alone u past).1) ∙ link in cc
none_left forest lines Sibling u m past link = let two : None ≡ Some m = sym (ap (λ ns. before ns u) (lines.unknown_alone u past).1) ∙ link in cc

module _ (forest : Forest) (lines : AreLines forest) (k : Combinator) where
  stands_from : (w n : ℕ) → SomeOnLine (ends_at forest k) (λ v. v ≡ w) (line forest k n) → CombinatorHolds forest k w n
  stands_from w n s = let f = from_line (λ v. v ≡ w) forest k n lines s in subst (λ v. CombinatorHolds forest k v n) f.2 f.1

  stands_to : (w n : ℕ) → CombinatorHolds forest k w n → SomeOnLine (ends_at forest k) (λ v. v ≡ w) (line forest k n)
  stands_to w n s = to_line (λ v. v ≡ w) forest k n w lines s refl

  -- the next node on the left stands so, and whoever stands so to it where the way goes on
  pub next_stands : (u w : ℕ) → left_of forest k u ≡ Some w → CombinatorHolds forest k w u
  next_stands u w link = stands_from w u (left_here forest k (λ v. v ≡ w) lines u w link refl)

  farther_stands : (n v w : ℕ) → left_of forest k n ≡ Some v → (ends_at forest k v ≡ true → ⊥) → CombinatorHolds forest k w v → CombinatorHolds forest k w n
  farther_stands n v w link goes s =
      stands_from w n (subst (SomeOnLine (ends_at forest k) (λ m. m ≡ w)) (sym (line_some forest k n v lines link)) (inr (goes, stands_to w v s)))

  -- the way to the left, node by node
  record OnWay (n v : ℕ) (vs : List ℕ) : Type 0 where
    link : left_of forest k n ≡ Some v
    rest : line forest k v ≡ vs

  on_way : (n v : ℕ) (vs : List ℕ) → line forest k n ≡ v ∷ vs → OnWay n v vs
  on_way n v vs e = elim (cases_Option (left_of forest k n)) [
    | inl none ↦ (let no = sym (line_none forest k n lines none) ∙ e in cc)
    | inr some ↦ (let is : some.0 ∷ line forest k some.0 ≡ v ∷ vs = sym (line_some forest k n some.0 lines some.1) ∙ e in
        let same : some.0 ≡ v = cc in
        let rest : line forest k some.0 ≡ vs = cc in
        record { link = some.1 ∙ ap (λ m. Some m) same; rest = ap (line forest k) (sym same) ∙ rest })
  ]

  -- from the other end: w is the next on the left of n, or of a node that stands so to n and at which the way goes on
  abbrev pub IsNext : ℕ → ℕ → Type 0
  IsNext w n = (u : ℕ) × (left_of forest k u ≡ Some w) × ((u ≡ n) ⊎ ((ends_at forest k u ≡ true → ⊥) × CombinatorHolds forest k u n))

  next_from : (vs : List ℕ) (w n : ℕ) → line forest k n ≡ vs → SomeOnLine (ends_at forest k) (λ v. v ≡ w) vs → IsNext w n
  next_from [] w n e s = absurd s
  next_from (v ∷ vs) w n e (inl is) = (n, (on_way n v vs e).link ∙ ap (λ m. Some m) is, inl refl)
  next_from (v ∷ vs) w n e (inr h) =
      let way = on_way n v vs e in
      on way (next_from vs w v way.rest h.1)
    where
      on : OnWay n v vs → IsNext w v → IsNext w n
      on way (u, link, inl same) = (u, link, inr (subst (λ m. ends_at forest k m ≡ true → ⊥) (sym same) h.0, subst (λ m. CombinatorHolds forest k m n) (sym same) (next_stands n v way.link)))
      on way (u, link, inr more) = (u, link, inr (more.0, farther_stands n v u way.link h.0 more.1))

  next_is : (w n : ℕ) → CombinatorHolds forest k w n → IsNext w n
  next_is w n s = next_from (line forest k n) w n refl (stands_to w n s)

  stands_over : (vs : List ℕ) (w u n : ℕ) → line forest k n ≡ vs → left_of forest k u ≡ Some w → (ends_at forest k u ≡ true → ⊥) → SomeOnLine (ends_at forest k) (λ v. v ≡ u) vs → CombinatorHolds forest k w n
  stands_over [] w u n e link goes s = absurd s
  stands_over (v ∷ vs) w u n e link goes (inl is) =
      let way = on_way n v vs e in
      farther_stands n v w way.link (subst (λ m. ends_at forest k m ≡ true → ⊥) (sym is) goes) (subst (λ m. CombinatorHolds forest k w m) (sym is) (next_stands u w link))
  stands_over (v ∷ vs) w u n e link goes (inr h) =
      let way = on_way n v vs e in
      farther_stands n v w way.link h.0 (stands_over vs w u v way.rest link goes h.1)

  module _ (table : List Bool) where
    abbrev PassesOn : ℕ → Type 0
    PassesOn u = PassesItOn forest k table u

    right_next : (w : ℕ) → HasRightOperand forest k table w → (u : ℕ) × (left_of forest k u ≡ Some w) × PassesOn u
    right_next w reached = on (next_is w reached.0 reached.1)
      where
        on : IsNext w reached.0 → (u : ℕ) × (left_of forest k u ≡ Some w) × PassesOn u
        on (u, link, inl same) = (u, link, inl (subst (IsOperandIn forest k table) (sym same) reached.2))
        on (u, link, inr more) = (u, link, inr (more.0, (reached.0, more.1, reached.2)))

    next_right : (w u : ℕ) → left_of forest k u ≡ Some w → PassesOn u → HasRightOperand forest k table w
    next_right w u link (inl will) = (u, next_stands u w link, will)
    next_right w u link (inr more) =
        let reached = more.1 in
        (reached.0, stands_over (line forest k reached.0) w u reached.0 refl link more.0 (stands_to u reached.0 reached.1), reached.2)

    passes_decided : (flags : List Bool) (u : ℕ) (will ends flag : Bool) → (may_be_operand forest k u && in_set table u) ≡ will → ends_at forest k u ≡ ends → Decides flag (HasRightOperand forest k table u) →
        Decides (will || (not ends && flag)) (PassesOn u)
    passes_decided flags u true ends flag w e h = inl w
    passes_decided flags u false true flag w e h = λ p. none p
      where
        none : PassesOn u → ⊥
        none (inl will) = true≢false (sym will ∙ w)
        none (inr more) = more.0 e
    passes_decided flags u false false true w e h = inr ((λ t. true≢false (sym t ∙ e)), h)
    passes_decided flags u false false false w e h = λ p. none p
      where
        none : PassesOn u → ⊥
        none (inl will) = true≢false (sym will ∙ w)
        none (inr more) = h more.1

    module _ (order places : List ℕ) (good : IsOrder forest order places) where
      abbrev Decided : ℕ → ℕ → Type 0
      Decided i m = DecidedBy forest k table places i m

      left_known : (u m : ℕ) → left_of forest k u ≡ Some m → u < length forest.content
      left_known u m link = elim (cases_lt u (length forest.content)) [
        | inl known ↦ known
        | inr past ↦ absurd (none_left forest lines k u m past link)
      ]

      decided_last : (i n : ℕ) → n < length forest.content → number_at places n + i + 1 ≡ length forest.content → (b : Bool) → Decides b (Decided i n) → Decides b (HasRightOperand forest k table n)
      decided_last i n known at true h = next_right n h.0 h.3 h.4
      decided_last i n known at false h = λ reached.
          let up = right_next n reached in
          let inside = left_known up.0 n up.1 in
          let behind = (behind_left forest order places good k up.0 n inside up.1).1 in
          h (up.0, inside, omega arith, up.1, up.2)

      decided_wider : (i m : ℕ) → Decided i m → Decided (i + 1) m
      decided_wider i m h = let upto = h.2 in (h.0, h.1, omega arith, h.3, h.4)

      -- but for the node at this position, it is flagged by a later one
      decided_earlier : (i n m : ℕ) → n < length forest.content → number_at places n + i + 1 ≡ length forest.content → (left_of forest k n ≡ Some m → PassesOn n → ⊥) → Decided (i + 1) m → Decided i m
      decided_earlier i n m known at none (u, inside, upto, link, passes) = elim (same_or_not (number_at places u) (number_at places n)) [
        | inl same ↦ (let is : u ≡ n = sym (good.ordered u inside) ∙ (ap (number_at order) same ∙ good.ordered n known) in
            absurd (none (subst (λ j. left_of forest k j ≡ Some m) is link) (subst PassesOn is passes)))
        | inr other ↦ (u, inside, omega arith, link, passes)
      ]

      -- the flags with one node more of the preorder: it flags the next one to its left, or none
      module _ (flags : List Bool) (i n : ℕ) (known : n < length forest.content) (at : number_at places n + i + 1 ≡ length forest.content) (answer : (m : ℕ) → m < length forest.content → Decides (in_set flags m) (Decided i m)) where
        passed_here : Decides (in_set flags n) (HasRightOperand forest k table n)
        passed_here = decided_last i n known at (in_set flags n) (answer n known)

        pub passes_here : (b : Bool) → b ≡ propagates forest k table flags n → Decides b (PassesOn n)
        passes_here b is = subst (λ c. Decides c (PassesOn n)) (sym is) (passes_decided flags n (may_be_operand forest k n && in_set table n) (ends_at forest k n) (in_set flags n) refl refl passed_here)

        kept_decided : (m : ℕ) → m < length forest.content → (left_of forest k n ≡ Some m → PassesOn n → ⊥) → Decides (in_set flags m) (Decided (i + 1) m)
        kept_decided m inside none = decided_by (in_set flags m) (Decided i m) (Decided (i + 1) m) (decided_wider i m) (decided_earlier i n m known at none) (answer m inside)

        pub none_decided : (PassesOn n → ⊥) → (m : ℕ) → m < length forest.content → Decides (in_set flags m) (Decided (i + 1) m)
        none_decided out m inside = kept_decided m inside (λ link p. out p)

        pub more_decided : PassesOn n → length flags ≡ length forest.content → (o : Option ℕ) → left_of forest k n ≡ o → (m : ℕ) → m < length forest.content → Decides (in_set (with_node flags o) m) (Decided (i + 1) m)
        more_decided passes long None link m inside = kept_decided m inside (λ some p. (let two = sym link ∙ some in cc))
        more_decided passes long (Some w) link m inside = elim (same_or_not m w) [
          | inl same ↦ (let w_known = (behind_left forest order places good k n w known link).0 in
              let here : in_set (set flags w true) m ≡ true = ap (in_set (set flags w true)) same ∙ written_here flags w true (omega arith) in
              let decided_it : Decided (i + 1) m = (n, known, omega arith, link ∙ ap (λ j. Some j) (sym same), passes) in
              subst (λ c. Decides c (Decided (i + 1) m)) (sym here) decided_it)
          | inr other ↦ subst (λ c. Decides c (Decided (i + 1) m)) (sym (written_elsewhere flags w m true other))
              (kept_decided m inside (λ some p. (let two : Some w ≡ Some m = sym link ∙ some in let same : m ≡ w = cc in other same)))
        ]

      -- no node is flagged at first, and at last those with a right operand in the set
      pub decided_none : (flags : List Bool) → ((m : ℕ) → m < length forest.content → in_set flags m ≡ false) → (m : ℕ) → m < length forest.content → Decides (in_set flags m) (Decided 0 m)
      decided_none flags empty m inside = rw (empty m inside) (λ h. let upto = h.2 in let fits = good.inside h.0 h.1 in absurd (omega arith))

      pub decided_all : (flags : List Bool) → ((m : ℕ) → m < length forest.content → Decides (in_set flags m) (Decided (length forest.content) m)) → (m : ℕ) → m < length forest.content → Decides (in_set flags m) (HasRightOperand forest k table m)
      decided_all flags answer m inside = decided_by (in_set flags m) (Decided (length forest.content) m) (HasRightOperand forest k table m)
          (λ h. next_right m h.0 h.3 h.4)
          (λ reached. (let up = right_next m reached in (up.0, left_known up.0 m up.1, omega arith, up.1, up.2)))
          (answer m inside)

pub decided_too_long : (flags : List Bool) (o : Option ℕ) → length (with_node flags o) ≡ length flags
decided_too_long flags None = refl
decided_too_long flags (Some n) = length-set flags n true
