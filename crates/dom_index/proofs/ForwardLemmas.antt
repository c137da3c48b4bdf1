-- Left operands by the next node to the left.
use Rattle.std.proofs.Common.{◌≡◌, ◌<◌, ℕ, List, Bool, true, false, true≢false, Option, Some, None, refl, sym, ◌∙◌, subst, length}
use Rattle.std.specs.Prelude.{◌&&◌, ◌||◌, not, IfSome}
use Rattle.dom_links.specs.Forest.{Forest}
use Rattle.dom_links.specs.Laws.{AreLines}
use Rattle.dom_selectors.specs.declared.syntax.Combinator.{Combinator}
use Rattle.dom_select.specs.Leftward.{ends_at, left_of, line}
use Rattle.dom_select.proofs.ReachLemmas.{SomeOnLine, from_line, to_line, left_here, left_nowhere, left_ends, left_farther}
use Rattle.dom_selectors.specs.Spelling.{Decides}
use Rattle.dom_selectors.specs.declared.syntax.Combinator.TheVariants.{Descendant, Child, Adjacent, Sibling}
use Rattle.dom_index.specs.Orders.{IsOrder, number_at}
use Rattle.dom_index.specs.NodeSets.{in_set, may_be_operand, HasLeftOperand, is_reached, propagates}

-- the next node to the left stands earlier in the preorder
pub behind_left : (forest : Forest) (order places : List ℕ) → IsOrder forest order places → (k : Combinator) (n m : ℕ) → n < length forest.content → left_of forest k n ≡ Some m →
    (m < length forest.content) × (number_at places m < number_at places n)
behind_left forest order places good Descendant n m known link = good.behind_parent n m known link
behind_left forest order places good Child n m known link = good.behind_parent n m known link
behind_left forest order places good Adjacent n m known link = good.behind_sibling n m known link
behind_left forest order places good Sibling n m known link = good.behind_sibling n m known link

pub some_known : (o : Option ℕ) (P : ℕ → Type 0) → ((m : ℕ) → o ≡ Some m → P m) → IfSome o P
some_known None P each = tt
some_known (Some m) P each = each m refl

pub left_known : (forest : Forest) (order places : List ℕ) → IsOrder forest order places → (k : Combinator) (n : ℕ) → n < length forest.content → IfSome (left_of forest k n) (λ m. m < length forest.content)
left_known forest order places good k n known = some_known (left_of forest k n) _ (λ m link. (behind_left forest order places good k n m known link).0)

pub decided_by : (b : Bool) (P Q : Type 0) → (P → Q) → (Q → P) → Decides b P → Decides b Q
decided_by true P Q f g h = f h
decided_by false P Q f g h = λ q. h (g q)

module _ (forest : Forest) (lines : AreLines forest) (k : Combinator) (table flags : List Bool) where
  abbrev Q : ℕ → Type 0
  Q v = (may_be_operand forest k v && in_set table v) ≡ true

  abbrev Left : ℕ → Type 0
  Left n = SomeOnLine (ends_at forest k) Q (line forest k n)

  into : (n : ℕ) → Left n → HasLeftOperand forest k table n
  into n s = from_line Q forest k n lines s

  back : (n : ℕ) → HasLeftOperand forest k table n → Left n
  back n s = to_line Q forest k n s.0 lines s.1 s.2

  by_next : (n v : ℕ) → left_of forest k n ≡ Some v → Decides (in_set flags v) (HasLeftOperand forest k table v) →
      (here ends : Bool) → (may_be_operand forest k v && in_set table v) ≡ here → ends_at forest k v ≡ ends → Decides (here || (not ends && in_set flags v)) (Left n)
  by_next n v link answer true ends h e = left_here forest k Q lines n v link h
  by_next n v link answer false true h e = left_ends forest k Q lines n v link (λ q. true≢false (sym q ∙ h)) e
  by_next n v link answer false false h e =
      let on = left_farther forest k Q lines n v link (λ q. true≢false (sym q ∙ h)) e in
      decided_by (in_set flags v) (HasLeftOperand forest k table v) (Left n) (λ s. on.1 (back v s)) (λ s. into v (on.0 s)) answer

  by_link : (n : ℕ) (link : Option ℕ) → left_of forest k n ≡ link → ((v : ℕ) → link ≡ Some v → Decides (in_set flags v) (HasLeftOperand forest k table v)) →
      (b : Bool) → b ≡ is_reached forest k table flags n → Decides b (HasLeftOperand forest k table n)
  by_link n None e answer b is =
      let none : b ≡ false = rw e at is in
      subst (λ c. Decides c (HasLeftOperand forest k table n)) (sym none) (λ s. left_nowhere forest k Q lines n e (back n s))
  by_link n (Some v) e answer b is =
      let some : b ≡ propagates forest k table flags v = rw e at is in
      subst (λ c. Decides c (HasLeftOperand forest k table n)) (sym some)
      (decided_by (propagates forest k table flags v) (Left n) (HasLeftOperand forest k table n) (into n) (back n)
      (by_next n v e (answer v refl) (may_be_operand forest k v && in_set table v) (ends_at forest k v) refl refl))

  -- the flag of a node by the flag of the next one to its left
  pub reached_decided : (n : ℕ) → ((v : ℕ) → left_of forest k n ≡ Some v → Decides (in_set flags v) (HasLeftOperand forest k table v)) → (b : Bool) → b ≡ is_reached forest k table flags n → Decides b (HasLeftOperand forest k table n)
  reached_decided n answer b is = by_link n (left_of forest k n) refl answer b is
