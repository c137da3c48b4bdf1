-- The set of the nodes that a chain of compounds reaches, from the set of one compound less.
use Rattle.std.proofs.Common.{◌≡◌, ◌↔◌, ◌⊎◌, ◌<◌, ℕ, List, [], ◌∷◌, ◌++◌, Bool, true, false, true≢false, Option, Some, None, inl, inr, refl, sym, ap, ◌∙◌, subst, length, slice_get, reverse, append_assoc}
use Rattle.std.specs.Prelude.{◌&&◌, ◌==◌}
use Rattle.std.specs.Option.{option_map_or}
use Rattle.std.proofs.lemmas.Bool.{cases_lt, eqb-true, eq-eqb, or_right, or_cases}
use Rattle.std.proofs.lemmas.List.{append-nil, get_or_past, get_or-replicate, length-replicate}
use Rattle.dom_nodes.specs.declared.node_data.NodeData.{NodeData}
use Rattle.dom_nodes.specs.declared.node_data.NodeData.TheVariants.{Document, Fragment, Doctype, Text, Comment, Element, ProcessingInstruction}
use Rattle.dom_nodes.specs.Kinds.{is_top, children_allowed}
use Rattle.dom_links.specs.Forest.{Forest, children_or, parent, run_of, siblings}
use Rattle.dom_links.specs.Laws.{AreLines}
use Rattle.dom_links.specs.Lists.{is_member}
use Rattle.dom_links.specs.Sound.{IsForest, stays}
use Rattle.dom_links.specs.Trees.{ancestors}
use Rattle.dom_links.specs.Walk.{rest_after}
use Rattle.dom_links.proofs.forest.Depth.{parent_inside}
use Rattle.dom_selectors.specs.declared.syntax.Combinator.{Combinator}
use Rattle.dom_selectors.specs.declared.syntax.Combinator.TheVariants.{Descendant, Child, Adjacent, Sibling}
use Rattle.dom_selectors.specs.ListsAsTrees.{steps_of}
use Rattle.dom_select.specs.Leftward.{earlier}
use Rattle.dom_links.specs.ListMoves.{element_at}
use Rattle.dom_nodes.specs.Kinds.{is_element}
use Rattle.dom_select.specs.Meaning.{Holds, StepsMatch, MayBeOperand, ChainMatches, CombinatorHolds}
use Rattle.dom_selectors.specs.Syntax.{CompoundSelector, compound}
use Rattle.dom_select.specs.Chains.{IsOrPrecedes, Precedes}
use Rattle.dom_select.proofs.FollowLemmas.{led_at, precedes_from, precedes_then, stands_precedes, beside_element}
use Rattle.dom_select.proofs.ReachLemmas.{from_chain, to_chain}
use Rattle.dom_select.proofs.MeaningLemmas.{parts_unknown}
use Rattle.dom_select.proofs.RowLemmas.{first_stands, parent_first}
use Rattle.dom_selectors.specs.Spelling.{Decides}
use Rattle.dom_index.specs.TestCounts.{IsFilteredByCompound, everywhere}
use Rattle.dom_index.specs.NodeSets.{AllHold, IsPrefiltered, IsIntersection, IsSetOf, IsSetWithin, in_set, may_be_operand, HasLeftOperand}
use Rattle.dom_index.proofs.ForwardLemmas.{decided_by}

abbrev pub Chain : Type 0
Chain = List (Combinator × CompoundSelector)

-- no sibling stands before v, or v is an element: v may stand beside `+` and `~` wherever it has to
abbrev pub IsFit : Forest → ℕ → Type 0
IsFit forest v = (element_at forest v ≡ true) ⊎ (earlier forest v ≡ [])

module _ (forest : Forest) (lines : AreLines forest) where
  may_first : (k : Combinator) (exempt w : ℕ) → Precedes forest w exempt → MayBeOperand forest exempt k w → (other : ℕ) → MayBeOperand forest other k w
  may_first Descendant exempt w p b other = tt
  may_first Child exempt w p b other = tt
  may_first Adjacent exempt w p b other = inr (beside_element forest exempt lines w p b)
  may_first Sibling exempt w p b other = inr (beside_element forest exempt lines w p b)

  no_earlier : (w u : ℕ) → earlier forest u ≡ [] → is_member w (earlier forest u) ≡ true → ⊥
  no_earlier w u e s = true≢false (sym s ∙ ap (is_member w) e)

  may_last : (k : Combinator) (w u v : ℕ) → IsFit forest v → CombinatorHolds forest k w u → MayBeOperand forest v k u → (other : ℕ) → MayBeOperand forest other k u
  unfolding CombinatorHolds
  may_last Descendant w u v fit s b other = tt
  may_last Child w u v fit s b other = tt
  may_last Adjacent w u v fit s (inr e) other = inr e
  may_last Adjacent w u v (inl e) s (inl is) other = inr (ap (element_at forest) is ∙ e)
  may_last Adjacent w u v (inr none) s (inl is) other = absurd (no_earlier w u (ap (earlier forest) is ∙ none) (first_stands forest (earlier forest u) w s))
  may_last Sibling w u v fit s (inr e) other = inr e
  may_last Sibling w u v (inl e) s (inl is) other = inr (ap (element_at forest) is ∙ e)
  may_last Sibling w u v (inr none) s (inl is) other = absurd (no_earlier w u (ap (earlier forest) is ∙ none) s)

  -- a chain that reaches a node before the exempt one reaches it with that node exempt
  pub sparing_here : (exempt v : ℕ) → Precedes forest v exempt → (ss : Chain) (w : ℕ) → StepsMatch (steps_of ss) forest exempt w v → StepsMatch (steps_of ss) forest v w v
  sparing_here exempt v p [] w h = h
  sparing_here exempt v p (s ∷ ss) w h =
      let u = h.0 in
      let rest = sparing_here exempt v p ss u h.3 in
      let at = led_at forest v lines ss u v (inl refl) rest in
      let before_spared : Precedes forest u exempt = at_spared u at in
      let first : Precedes forest w exempt = precedes_then forest w u exempt (stands_precedes forest lines s.0 w u h.1.0) before_spared in
      (u, (h.1.0, may_first s.0 exempt w first h.1.1 v, may_first s.0 exempt u before_spared h.1.2 v), h.2, rest)
    where
      at_spared : (u : ℕ) → IsOrPrecedes forest u v → Precedes forest u exempt
      at_spared u (inl e) = subst (λ m. Precedes forest m exempt) (sym e) p
      at_spared u (inr q) = precedes_then forest u v exempt q p

  -- and back, where the node may stand beside `+` and `~` itself
  pub sparing_there : (exempt v : ℕ) → IsFit forest v → (ss : Chain) (w : ℕ) → StepsMatch (steps_of ss) forest v w v → StepsMatch (steps_of ss) forest exempt w v
  sparing_there exempt v fit [] w h = h
  sparing_there exempt v fit (s ∷ ss) w h =
      let u = h.0 in
      let at = led_at forest v lines ss u v (inl refl) h.3 in
      let first : Precedes forest w v = precedes_from forest w u v (stands_precedes forest lines s.0 w u h.1.0) at in
      (u, (h.1.0, may_first s.0 v w first h.1.1 exempt, may_last s.0 w u v fit h.1.0 h.1.2 exempt), h.2, sparing_there exempt v fit ss u h.3)

module _ (forest : Forest) (good : IsForest forest) (lines : AreLines forest) where
  some_child : (ns : List ℕ) (n v : ℕ) → ancestors forest n ≡ ns → is_member v ns ≡ true → (c : ℕ) × (parent forest c ≡ Some v)
  some_child [] n v e s = absurd (true≢false (sym s))
  some_child (m ∷ ms) n v e s =
      let up = parent_first forest lines n m ms e in
      let both : m ∷ ms ≡ m ∷ ancestors forest m = sym e ∙ lines.up n m up in
      let rest : ancestors forest m ≡ ms = cc in
      elim (or_cases (m == v) (is_member v ms) s) [
        | inl here ↦ (n, up ∙ ap (λ p. Some p) (eqb-true m v here))
        | inr there ↦ some_child ms m v rest there
      ]

  alone_fit : (v : ℕ) → v < length forest.content → stays forest v ≡ true → IsFit forest v
  alone_fit v known s =
      let alone = good.alone v known s in
      let row : siblings forest v ≡ v ∷ [] = ap (λ p. children_or forest p (run_of forest v)) alone.0 ∙ alone.1 in
      inr (ap (λ ns. rest_after (reverse ns) v) row ∙ (rw (eq-eqb v v refl) refl))

  bearer_fit : (v : ℕ) (o : Option NodeData) → slice_get forest.content v ≡ o → v < length forest.content → option_map_or children_allowed o false ≡ true → IsFit forest v
  bearer_fit v None e known b = absurd (true≢false (sym b))
  bearer_fit v (Some Document) e known b = alone_fit v known (or_right (v == 0) _ (ap (λ o. option_map_or is_top o false) e))
  bearer_fit v (Some Fragment) e known b = alone_fit v known (or_right (v == 0) _ (ap (λ o. option_map_or is_top o false) e))
  bearer_fit v (Some (Doctype _ _ _)) e known b = absurd (true≢false (sym b))
  bearer_fit v (Some (Text _)) e known b = absurd (true≢false (sym b))
  bearer_fit v (Some (Comment _)) e known b = absurd (true≢false (sym b))
  bearer_fit v (Some (Element element)) e known b = inl (ap (λ o. option_map_or is_element o false) e)
  bearer_fit v (Some (ProcessingInstruction _ _)) e known b = absurd (true≢false (sym b))

  parent_fit : (n v : ℕ) → parent forest n ≡ Some v → IsFit forest v
  parent_fit n v up = bearer_fit v (slice_get forest.content v) refl (parent_inside forest n v good up) (good.parents_allow v n up)

  -- a left operand may be an operand wherever it has to
  pub reached_fit : (k : Combinator) (v n : ℕ) → CombinatorHolds forest k v n → may_be_operand forest k v ≡ true → IsFit forest v
  unfolding CombinatorHolds
  reached_fit Descendant v n s e = let child = some_child (ancestors forest n) n v refl s in parent_fit child.0 v child.1
  reached_fit Child v n s e = parent_fit n v s
  reached_fit Adjacent v n s e = inl e
  reached_fit Sibling v n s e = inl e

  pub may_serve : (k : Combinator) (v exempt : ℕ) → may_be_operand forest k v ≡ true → MayBeOperand forest exempt k v
  may_serve Descendant v exempt e = tt
  may_serve Child v exempt e = tt
  may_serve Adjacent v exempt e = inr e
  may_serve Sibling v exempt e = inr e

  pub must_serve : (k : Combinator) (v exempt : ℕ) → Precedes forest v exempt → MayBeOperand forest exempt k v → may_be_operand forest k v ≡ true
  must_serve Descendant v exempt p b = refl
  must_serve Child v exempt p b = refl
  must_serve Adjacent v exempt p b = beside_element forest exempt lines v p b
  must_serve Sibling v exempt p b = beside_element forest exempt lines v p b

  pub may_itself : (k : Combinator) (n : ℕ) → MayBeOperand forest n k n
  may_itself Descendant n = tt
  may_itself Child n = tt
  may_itself Adjacent n = inl refl
  may_itself Sibling n = inl refl

pub holds_inside : (c : CompoundSelector) (forest : Forest) (n : ℕ) → Holds c forest n → n < length forest.content
holds_inside (compound parts lists) forest n h = elim (cases_lt n (length forest.content)) [
  | inl below ↦ below
  | inr past ↦ absurd (parts_unknown parts forest n past h.0)
]

steps_inside : (forest : Forest) (exempt v : ℕ) (ss : Chain) (w : ℕ) → w < length forest.content → StepsMatch (steps_of ss) forest exempt w v → v < length forest.content
steps_inside forest exempt v [] w known h = subst (λ (m : ℕ). m < length forest.content) h known
steps_inside forest exempt v (s ∷ ss) w known h = steps_inside forest exempt v ss h.0 (holds_inside s.1 forest h.0 h.2) h.3

pub decided_true : (b : Bool) (P : Type 0) → Decides b P → P → b ≡ true
decided_true true P h p = refl
decided_true false P h p = absurd (h p)

pub truth_inside : (table : List Bool) (n : ℕ) → in_set table n ≡ true → n < length table
truth_inside table n t = elim (cases_lt n (length table)) [
  | inl below ↦ below
  | inr past ↦ absurd (true≢false (sym t ∙ get_or_past table n false past))
]

pub both_true : (a b : Bool) → (a && b) ≡ true → (a ≡ true) × (b ≡ true)
both_true true b e = (refl, e)
both_true false b e = absurd (true≢false (sym e))

-- the set of a chain
abbrev pub ReachesIt : Forest → CompoundSelector → Chain → ℕ → Type 0
ReachesIt forest first ss n = ChainMatches (Holds first forest) (steps_of ss) forest n n

module _ (forest : Forest) (good : IsForest forest) (lines : AreLines forest) (first : CompoundSelector) (ss : Chain) (k : Combinator) (c : CompoundSelector)
    (table : List Bool) (answer : IsSetOf table (length forest.content) (ReachesIt forest first ss)) where
  chain_forth : (n : ℕ) → HasLeftOperand forest k table n → Holds c forest n → ReachesIt forest first (ss ++ (k, c) ∷ []) n
  chain_forth n reached h =
      let v = reached.0 in
      let both = both_true (may_be_operand forest k v) (in_set table v) reached.2 in
      let known = subst (λ (m : ℕ). v < m) answer.long (truth_inside table v both.1) in
      let here : ReachesIt forest first ss v = rw both.1 at (answer.each v known) in
      let there : ChainMatches (Holds first forest) (steps_of ss) forest n v = (here.0, here.1, sparing_there forest lines n v (reached_fit forest good lines k v n reached.1 both.0) ss here.0 here.2) in
      to_chain forest n (Holds first forest) ss (k, c) n (may_itself forest good lines k n, h, (v, reached.1, (may_serve forest good lines k v n both.0, there)))

  chain_back : (n : ℕ) → ReachesIt forest first (ss ++ (k, c) ∷ []) n → HasLeftOperand forest k table n × Holds c forest n
  chain_back n r =
      let last = from_chain forest n (Holds first forest) ss (k, c) n r in
      let v = last.2.0 in
      let stands = last.2.1 in
      let there = last.2.2.1 in
      let p = stands_precedes forest lines k v n stands in
      let here : ReachesIt forest first ss v = (there.0, there.1, sparing_here forest lines n v p ss there.0 there.2) in
      let known = steps_inside forest n v ss there.0 (holds_inside first forest there.0 there.1) there.2 in
      let t = decided_true (in_set table v) (ReachesIt forest first ss v) (answer.each v known) here in
      ((v, stands, rw (must_serve forest good lines k v n p last.2.2.0, t) refl), last.1)

-- a compound after those that were tested, at the nodes of its set: it matches where all of them reach
pub record Arrived (forest : Forest) (first : CompoundSelector) (all : Chain) (c : CompoundSelector) (left : Chain) (here : List Bool) : Type 0 where
  pub front : Chain
  pub split : all ≡ front ++ left
  pub long : length here ≡ length forest.content
  pub same : (n : ℕ) → n < length forest.content → ((in_set here n ≡ true) × Holds c forest n) ↔ ReachesIt forest first front n

pub chain_start : (forest : Forest) (first : CompoundSelector) (all : Chain) (here : List Bool) → here ≡ everywhere forest → Arrived forest first all first all here
chain_start forest first all here is = record {
  front = [];
  split = refl;
  long = ap length is ∙ length-replicate (length forest.content) true;
  same = λ n known. (λ x. (n, x.1, refl), λ r. (ap (λ cells. in_set cells n) is ∙ get_or-replicate (length forest.content) n true false known, subst (Holds first forest) r.2 r.1));
}

module _ (forest : Forest) (first : CompoundSelector) (all : Chain) (c : CompoundSelector) (left : Chain) (here : List Bool) (arrived : Arrived forest first all c left here) where
  pub chain_held : (held : List Bool) → IsFilteredByCompound c forest here held → IsSetOf held (length forest.content) (ReachesIt forest first arrived.front)
  chain_held held asked = record {
    long = asked.long;
    each = λ n known. let same = arrived.same n known in decided_by (in_set held n) _ _ same.0 same.1 (asked.each n known);
  }

  pub chain_next : IsForest forest → AreLines forest → (k : Combinator) (next : CompoundSelector) (behind : Chain) (held there : List Bool) → left ≡ (k, next) ∷ behind → IsFilteredByCompound c forest here held → IsSetOf there (length forest.content) (HasLeftOperand forest k held) →
      Arrived forest first all next behind there
  chain_next good lines k next behind held there is asked reached =
      let answer = chain_held held asked in
      record {
        front = arrived.front ++ (k, next) ∷ [];
        split = arrived.split ∙ (ap (λ (ss : Chain). arrived.front ++ ss) is ∙ sym (append_assoc arrived.front ((k, next) ∷ []) behind));
        long = reached.long;
        same = λ n known. (
          λ x. chain_forth forest good lines first arrived.front k next held answer n (rw x.0 at (reached.each n known)) x.1,
          λ r. let x = chain_back forest good lines first arrived.front k next held answer n r in (decided_true (in_set there n) (HasLeftOperand forest k held n) (reached.each n known) x.0, x.1),
        );
      }

  pub chain_last : (wanted both new : List Bool) → left ≡ [] → IsIntersection both here wanted → IsFilteredByCompound c forest both new → IsSetWithin wanted new (length forest.content) (ReachesIt forest first all)
  chain_last wanted both new none narrowed asked = record {
    long = asked.long;
    each = λ n known here_too.
        let inside = subst (λ (m : ℕ). n < m) (sym arrived.long) known in
        let cell = narrowed.each n inside in
        let same = arrived.same n known in
        let whole : all ≡ arrived.front = arrived.split ∙ (ap (λ (ss : Chain). arrived.front ++ ss) none ∙ append-nil arrived.front) in
        subst (λ z. Decides (in_set new n) (ReachesIt forest first z n)) (sym whole)
        (decided_by (in_set new n) _ _
        (λ x. same.0 ((both_true _ _ (sym cell ∙ x.0)).0, x.1))
        (λ r. let x = same.1 r in (cell ∙ (rw (x.0, here_too) refl), x.1))
        (asked.each n known));
  }

-- the tests at the nodes that may have a compound's type, for all nodes
pub asked_decided : (forest : Forest) (c : CompoundSelector) (count : ℕ) (wanted named new : List Bool) → length wanted ≡ count → IsPrefiltered forest c named wanted → IsSetOf new count (λ n. (in_set named n ≡ true) × Holds c forest n) →
    IsSetOf new count (λ n. (in_set wanted n ≡ true) × Holds c forest n)
asked_decided forest c count wanted named new long asked answer = record {
  long = answer.long;
  each = λ n known. let inside = subst (λ (m : ℕ). n < m) (sym long) known in
      decided_by (in_set new n) _ _ (λ x. (asked.answer n inside x.0, x.1)) (λ x. (asked.kept n inside x.0 x.1, x.1)) (answer.each n known);
}

-- and where the type bytes decide all
pub named_decided : (forest : Forest) (c : CompoundSelector) (wanted named : List Bool) → length wanted ≡ length forest.content → IsPrefiltered forest c named wanted → AllHold forest c named → IsSetOf named (length forest.content) (λ n. (in_set wanted n ≡ true) × Holds c forest n)
named_decided forest c wanted named long asked hold = record {
  long = asked.long ∙ long;
  each = λ n known. let inside = subst (λ (m : ℕ). n < m) (sym long) known in
      at n (in_set named n) (λ t. (asked.answer n inside t, hold n known t)) (λ x. asked.kept n inside x.0 x.1);
}
  where
    at : (n : ℕ) (b : Bool) → (b ≡ true → (in_set wanted n ≡ true) × Holds c forest n) → ((in_set wanted n ≡ true) × Holds c forest n → b ≡ true) → Decides b ((in_set wanted n ≡ true) × Holds c forest n)
    at n true f g = f refl
    at n false f g = λ x. true≢false (sym (g x))
