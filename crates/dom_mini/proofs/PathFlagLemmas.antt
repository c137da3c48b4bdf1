-- The flags of a path's steps at a node, at its first child and at its next sibling.
use Rattle.std.proofs.Common.{◌≡◌, ℕ, zero, suc, List, [], ◌∷◌, length, replicate, Bool, true, false, Some, None, inl, inr, refl, sym, ap, ◌∙◌, subst, true≢false}
use Rattle.std.specs.Prelude.{◌&&◌, ◌||◌, not, slice_get, slice_index_or}
use Rattle.std.specs.Option.{option_map_or}
use Rattle.dom_nodes.specs.Kinds.{is_element}
use Rattle.dom_nodes.specs.declared.node_data.NodeData.{NodeData}
use Rattle.dom_nodes.specs.declared.node_data.NodeData.TheVariants.{Document}
use Rattle.dom_links.specs.Forest.{Forest, parent, siblings}
use Rattle.dom_links.specs.Laws.{AreLines}
use Rattle.dom_links.specs.ListMoves.{element_at}
use Rattle.dom_links.specs.Lists.{is_member, before}
use Rattle.dom_links.specs.Trees.{upward}
use Rattle.dom_selectors.specs.declared.syntax.Combinator.{Combinator}
use Rattle.dom_selectors.specs.declared.syntax.Combinator.TheVariants.{Descendant, Child, Adjacent, Sibling}
use Rattle.dom_selectors.specs.MiniSyntax.{Mini, combinator_of}
use Rattle.dom_selectors.specs.MiniTruth.{node_passes}
use Rattle.dom_selectors.specs.Spelling.{Decides}
use Rattle.dom_select.specs.Chains.{IsOrPrecedes, Precedes}
use Rattle.dom_select.specs.Leftward.{ends_at, left_of}
use Rattle.dom_select.specs.Meaning.{CombinatorHolds}
use Rattle.dom_select.specs.MiniNodes.{mini_holds}
use Rattle.dom_mini.specs.PathFlags.{data_at, flag_below, flag_beside, flags_at, flags_below, flags_beside, is_led, passed_on}
use Rattle.dom_select.proofs.FollowLemmas.{apart, precedes_from, precedes_then, stands_precedes}
use Rattle.dom_select.proofs.ReachLemmas.{from_line, to_line, left_here, left_nowhere, left_ends, left_farther}

-- what a test of a node's data answers, by its number
at_is : (f : NodeData → Bool) → f Document ≡ false → (nodes : List NodeData) (n : ℕ) → option_map_or f (slice_get nodes n) false ≡ f (slice_index_or nodes n Document)
at_is f none [] n = sym none
at_is f none (node ∷ nodes) zero = refl
at_is f none (node ∷ nodes) (suc n) = at_is f none nodes n

pub element_is : (forest : Forest) (n : ℕ) → element_at forest n ≡ is_element (data_at forest n)
element_is forest n = at_is is_element refl forest.content n

pub mini_is : (forest : Forest) (mini : Mini) (n : ℕ) → mini_holds mini forest n ≡ node_passes mini (data_at forest n)
mini_is forest mini n = at_is (node_passes mini) refl forest.content n

module _ (forest : Forest) where
  -- some node that P holds of stands to n as the combinator says
  abbrev pub HasLeft : Combinator → (ℕ → Type 0) → ℕ → Type 0
  HasLeft k P n = (v : ℕ) × CombinatorHolds forest k v n × P v

  -- a step leads to n from such a node
  abbrev pub Stepped : Mini → (ℕ → Type 0) → ℕ → Type 0
  Stepped mini P n = HasLeft (combinator_of mini) P n × (mini_holds mini forest n ≡ true)

  -- the steps lead to n from a node that P holds of
  abbrev pub Reached : List Mini → (ℕ → Type 0) → ℕ → Type 0
  Reached [] P n = P n
  Reached (mini ∷ minis) P n = Reached minis (Stepped mini P) n

  -- each flag states whether a node that the steps before lead to stands to n as the step's combinator says
  abbrev pub AreRight : List Mini → (ℕ → Type 0) → ℕ → List Bool → Type 0
  AreRight [] P n flags = Unit {0}
  AreRight (mini ∷ minis) P n [] = ⊥
  AreRight (mini ∷ minis) P n (on ∷ flags) = Decides on (HasLeft (combinator_of mini) P n) × AreRight minis (Stepped mini P) n flags

  stepped_by : (mini : Mini) (P : ℕ → Type 0) (n : ℕ) (passes : Bool) → mini_holds mini forest n ≡ passes → HasLeft (combinator_of mini) P n → Decides passes (Stepped mini P n)
  stepped_by mini P n true e left = (left, e)
  stepped_by mini P n false e left = λ s. true≢false (sym s.1 ∙ e)

  stepped : (mini : Mini) (P : ℕ → Type 0) (n : ℕ) (on : Bool) → Decides on (HasLeft (combinator_of mini) P n) → Decides (on && node_passes mini (data_at forest n)) (Stepped mini P n)
  stepped mini P n true left = stepped_by mini P n (node_passes mini (data_at forest n)) (mini_is forest mini n) left
  stepped mini P n false none = λ s. none s.0

  pub led_right : (minis : List Mini) (P : ℕ → Type 0) (n : ℕ) (here : Bool) (flags : List Bool) → Decides here (P n) → AreRight minis P n flags → Decides (is_led minis (data_at forest n) here flags) (Reached minis P n)
  led_right [] P n here flags h right = h
  led_right (mini ∷ minis) P n here [] h right = absurd right
  led_right (mini ∷ minis) P n here (on ∷ flags) h right =
      led_right minis (Stepped mini P) n (on && node_passes mini (data_at forest n)) flags (stepped mini P n on right.0) right.1

module _ (forest : Forest) (lines : AreLines forest) where
  moved : (k : Combinator) (P : ℕ → Type 0) (n m : ℕ) → left_of forest k m ≡ Some n → (here on ends : Bool) → ends_at forest k n ≡ ends →
      Decides here (P n) → Decides on (HasLeft forest k P n) → Decides (here || (not ends && on)) (HasLeft forest k P m)
  moved k P n m link true on ends e h o = from_line P forest k m lines (left_here forest k P lines m n link h)
  moved k P n m link false on true e h o = λ l. left_ends forest k P lines m n link h e (to_line P forest k m l.0 lines l.1 l.2)
  moved k P n m link false true false e h o =
      from_line P forest k m lines ((left_farther forest k P lines m n link h e).1 (to_line P forest k n o.0 lines o.1 o.2))
  moved k P n m link false false false e h o =
      λ l. o (from_line P forest k n lines ((left_farther forest k P lines m n link h e).0 (to_line P forest k m l.0 lines l.1 l.2)))

  passed : (k : Combinator) (P : ℕ → Type 0) (n m : ℕ) → left_of forest k m ≡ Some n → (here on : Bool) →
      Decides here (P n) → Decides on (HasLeft forest k P n) → Decides (passed_on k (is_element (data_at forest n)) here on) (HasLeft forest k P m)
  passed Descendant P n m link here on h o = moved Descendant P n m link here on false refl h o
  passed Child P n m link true on h o = moved Child P n m link true on true refl h o
  passed Child P n m link false on h o = moved Child P n m link false on true refl h o
  passed Adjacent P n m link here on h o = moved Adjacent P n m link here on (is_element (data_at forest n)) (element_is forest n) h o
  passed Sibling P n m link here on h o = moved Sibling P n m link here on false refl h o

  none_left : (k : Combinator) (P : ℕ → Type 0) (n : ℕ) → left_of forest k n ≡ None → HasLeft forest k P n → ⊥
  none_left k P n alone l = left_nowhere forest k P lines n alone (to_line P forest k n l.0 lines l.1 l.2)

  at_child : (k : Combinator) (P : ℕ → Type 0) (n c : ℕ) → parent forest c ≡ Some n → before (siblings forest c) c ≡ None → (here on : Bool) →
      Decides here (P n) → Decides on (HasLeft forest k P n) → Decides (flag_below k (is_element (data_at forest n)) here on) (HasLeft forest k P c)
  at_child Descendant P n c up alone here on h o = passed Descendant P n c up here on h o
  at_child Child P n c up alone here on h o = passed Child P n c up here on h o
  at_child Adjacent P n c up alone here on h o = none_left Adjacent P c alone
  at_child Sibling P n c up alone here on h o = none_left Sibling P c alone

  above_both : (P : ℕ → Type 0) (n s : ℕ) → parent forest s ≡ parent forest n → (on : Bool) → Decides on (HasLeft forest Descendant P n) → Decides on (HasLeft forest Descendant P s)
  unfolding CombinatorHolds
  above_both P n s up on o = subst (λ ns. Decides on ((v : ℕ) × (is_member v ns ≡ true) × P v)) (ap (upward forest) (sym up)) o

  parent_both : (P : ℕ → Type 0) (n s : ℕ) → parent forest s ≡ parent forest n → (on : Bool) → Decides on (HasLeft forest Child P n) → Decides on (HasLeft forest Child P s)
  unfolding CombinatorHolds
  parent_both P n s up on o = subst (λ p. Decides on ((v : ℕ) × (p ≡ Some v) × P v)) (sym up) o

  at_next : (k : Combinator) (P : ℕ → Type 0) (n s : ℕ) → parent forest s ≡ parent forest n → before (siblings forest s) s ≡ Some n → (here on : Bool) →
      Decides here (P n) → Decides on (HasLeft forest k P n) → Decides (flag_beside k (is_element (data_at forest n)) here on) (HasLeft forest k P s)
  at_next Descendant P n s up link here on h o = above_both P n s up on o
  at_next Child P n s up link here on h o = parent_both P n s up on o
  at_next Adjacent P n s up link here on h o = passed Adjacent P n s link here on h o
  at_next Sibling P n s up link here on h o = passed Sibling P n s link here on h o

  -- flags that are right at n go on right to m, where each of them does
  all_right : (flag : Combinator → Bool → Bool → Bool → Bool) (n m : ℕ) →
      ((k : Combinator) (P : ℕ → Type 0) (here on : Bool) → Decides here (P n) → Decides on (HasLeft forest k P n) → Decides (flag k (is_element (data_at forest n)) here on) (HasLeft forest k P m)) →
      (minis : List Mini) (P : ℕ → Type 0) (here : Bool) (flags : List Bool) → Decides here (P n) → AreRight forest minis P n flags → AreRight forest minis P m (flags_at flag minis (data_at forest n) here flags)
  all_right flag n m each [] P here flags h right = tt
  all_right flag n m each (mini ∷ minis) P here [] h right = absurd right
  all_right flag n m each (mini ∷ minis) P here (on ∷ flags) h right = (
    each (combinator_of mini) P here on h right.0,
    all_right flag n m each minis (Stepped forest mini P) (on && node_passes mini (data_at forest n)) flags (stepped forest mini P n on right.0) right.1,
  )

  pub below_right : (minis : List Mini) (P : ℕ → Type 0) (n c : ℕ) → parent forest c ≡ Some n → before (siblings forest c) c ≡ None → (here : Bool) (flags : List Bool) →
      Decides here (P n) → AreRight forest minis P n flags → AreRight forest minis P c (flags_below minis (data_at forest n) here flags)
  below_right minis P n c up alone = all_right flag_below n c (λ k Q here on. at_child k Q n c up alone here on) minis P

  pub beside_right : (minis : List Mini) (P : ℕ → Type 0) (n s : ℕ) → parent forest s ≡ parent forest n → before (siblings forest s) s ≡ Some n → (here : Bool) (flags : List Bool) →
      Decides here (P n) → AreRight forest minis P n flags → AreRight forest minis P s (flags_beside minis (data_at forest n) here flags)
  beside_right minis P n s up link = all_right flag_beside n s (λ k Q here on. at_next k Q n s up link here on) minis P

  pub from_left : (x w v : ℕ) → IsOrPrecedes forest x w → Precedes forest w v → Precedes forest x v
  from_left x w v (inl e) p = subst (λ u. Precedes forest u v) (sym e) p
  from_left x w v (inr q) p = precedes_then forest x w v q p

  -- no flag is set at the start
  pub start_right : (minis : List Mini) (P : ℕ → Type 0) (x : ℕ) → ((v : ℕ) → P v → IsOrPrecedes forest x v) → AreRight forest minis P x (replicate (length minis) false)
  start_right [] P x from = tt
  start_right (mini ∷ minis) P x from = (
    (λ l. apart forest l.0 l.0 (precedes_from forest l.0 x l.0 (stands_precedes forest lines (combinator_of mini) l.0 x l.1) (from l.0 l.2)) refl),
    start_right minis (Stepped forest mini P) x (λ v s. inr (from_left x s.0.0 v (from s.0.0 s.0.2) (stands_precedes forest lines (combinator_of mini) s.0.0 v s.0.1))),
  )
