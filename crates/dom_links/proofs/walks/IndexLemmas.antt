-- Counting siblings, and stepping from one number to another.
use Rattle.std.proofs.Common.{ℕ, ◌≡◌, ◌<◌, ◌≤◌, ◌+◌, ◌-◌, ◌*◌, ◌/◌, ◌%◌, Bool, true, false, List, [], ◌∷◌, Option, Some, None, inl, inr, ◌⊎◌, sym, ap, ◌∙◌, arith, cond, length, nat_eq, MatchBool, slice_get}
use Rattle.std.specs.Prelude.{◌==◌, count_by, if◌then◌else◌}
use Rattle.std.specs.Option.{option_map_or}
use Rattle.std.proofs.Math.Nat.{div-add-mod, mul-mod_right}
use Rattle.std.proofs.lemmas.List.Sums.{sum_by-cons}
use Rattle.std.proofs.lemmas.Option.{slice_get_within}
use Rattle.std.proofs.lemmas.Bool.{cases_Bool, eqb-true, eq-eqb, true≢false}
use Rattle.dom_nodes.specs.declared.node_data.NodeData.{NodeData}
use Rattle.dom_nodes.specs.declared.node_data.TreeNode.{TreeNode}
use Rattle.dom_nodes.specs.declared.indexes.IndexKind.{IndexKind}
use Rattle.dom_nodes.specs.declared.indexes.IndexKind.TheVariants.{Child, LastChild, OfType, LastOfType}
use Rattle.dom_nodes.specs.Kinds.{is_element}
use Rattle.dom_links.specs.Forest.{Forest, siblings}
use Rattle.dom_links.specs.Indexes.{counts, index_at, is_from_first, of_one_type, counts_sibling}
use Rattle.dom_links.specs.Lists.{after, is_member}
use Rattle.dom_links.specs.Sound.{IsForest}
use Rattle.dom_links.specs.Trees.{in_order}
use Rattle.dom_links.specs.Walk.{IsNodeOf, IsWithin, later, rest_after, row_on}
use Rattle.dom_links.proofs.forest.Chains.{length_below}
use Rattle.dom_links.proofs.walks.Later.{Follows, follows, ordered_once, ordered_stands}
use Rattle.dom_links.proofs.forest.Nodes.{siblings_past}
use Rattle.dom_links.proofs.forest.Places.{Beside, beside, siblings_once}
use Rattle.dom_links.proofs.walks.RowWalks.{neighbour_is}

pub one_more : (p : ℕ → Bool) (n : ℕ) (ns : List ℕ) (b : Bool) → p n ≡ b → count_by p (n ∷ ns) ≡ cond b 1 0 + count_by p ns
one_more p n ns b e = sum_by-cons (λ m. cond (p m) 1 0) n ns ∙ ap (λ x. cond x 1 0 + count_by p ns) e

-- a list is longer than what comes after one of its numbers

rest_few : (ns : List ℕ) (n : ℕ) → length (rest_after ns n) ≤ length ns
rest_few [] n = omega arith
rest_few (m ∷ ns) n = elim (cases_Bool (m == n)) [
  | inl t ↦ rw t (omega arith)
  | inr f ↦ rw f (let few = rest_few ns n in omega arith)
]

rest_fewer : (ns : List ℕ) (n : ℕ) → is_member n ns ≡ true → length (rest_after ns n) < length ns
rest_fewer [] n s = cc
rest_fewer (m ∷ ns) n s = elim (cases_Bool (m == n)) [
  | inl t ↦ rw t (omega arith)
  | inr f ↦ rw f (let few = rest_few ns n in omega arith)
]

later_few : (forest : Forest) (rev : Bool) (n : ℕ) → IsForest forest → n < length forest.content → length (later forest rev n) < length forest.content
later_few forest rev n good known =
    let row = in_order rev (siblings forest n) in
    let there : is_member n row ≡ true = ordered_stands rev (siblings forest n) n ∙ good.once.placed n known in
    let few : length row ≤ length forest.content = length_below row (length forest.content) (ordered_once rev (siblings forest n) (siblings_once forest n good.once))
    (λ m s. Beside.known (beside forest n m good.once (sym (ordered_stands rev (siblings forest n) m) ∙ s))) in
    let less = rest_fewer row n there in
    omega arith

-- whether a sibling counts, by the data of both
pub counts_is : (forest : Forest) (kind : IndexKind) (n at : ℕ) (node other : NodeData) → slice_get forest.content n ≡ Some node → slice_get forest.content at ≡ Some other → counts kind forest n at ≡ counts_sibling kind node other
counts_is forest Child n at node other e f = ap (λ o. option_map_or is_element o false) f
counts_is forest LastChild n at node other e f = ap (λ o. option_map_or is_element o false) f
counts_is forest OfType n at node other e f = ap (λ o. option_map_or (λ x. option_map_or (of_one_type x) (slice_get forest.content at) false) o false) e ∙ ap (λ o. option_map_or (of_one_type node) o false) f
counts_is forest LastOfType n at node other e f = ap (λ o. option_map_or (λ x. option_map_or (of_one_type x) (slice_get forest.content at) false) o false) e ∙ ap (λ o. option_map_or (of_one_type node) o false) f

-- so many of the siblings were counted, and the others are still ahead
pub record Counting (forest : Forest) (kind : IndexKind) (n : ℕ) (next : Option ℕ) (index : ℕ) : Type 0 where
  pub same : index + count_by (counts kind forest n) (row_on forest (is_from_first kind) next) ≡ index_at kind forest n
  pub room : index + length (row_on forest (is_from_first kind) next) ≤ 4294967295
  pub within : IsWithin forest next

pub starts : (forest : Forest) (kind : IndexKind) (n : ℕ) (node : TreeNode) (rev : Bool) (next : Option ℕ) → IsForest forest → length forest.content ≤ 4294967295 → IsNodeOf forest n node → rev ≡ is_from_first kind →
    next ≡ (if rev then node.prev_sibling else node.next_sibling) → Counting forest kind n next 1
starts forest kind n node rev next good few is same link =
    let known = slice_get_within forest.content n node.content is.content_is in
    let back = is_from_first kind in
    let on : next ≡ after (in_order back (siblings forest n)) n = link ∙ ap (λ (b : Bool). if b then node.prev_sibling else node.next_sibling) same ∙ neighbour_is forest back n node is in
    let rest = follows forest back n next good on in
    let less = later_few forest back n good known in
    record {
      same = ap (λ ns. 1 + count_by (counts kind forest n) ns) (sym (Follows.rest rest));
      room = omega (arith, ap length (Follows.rest rest));
      within = Follows.within rest;
    }

pub record Counted (forest : Forest) (kind : IndexKind) (n : ℕ) (next beyond : Option ℕ) (index : ℕ) : Type 0 where
  pub counting : Counting forest kind n beyond index
  pub fewer : length (row_on forest (is_from_first kind) beyond) < length (row_on forest (is_from_first kind) next)

-- one more is counted where the test says so
pub one_counted : (b : Bool) (index new : ℕ) → ((b ≡ true) × (new ≡ index + 1)) ⊎ ((b ≡ false) × (new ≡ index)) → new ≡ index + cond b 1 0
one_counted b index new (inl more) = rw more.0 more.1
one_counted b index new (inr same) = rw same.0 (omega (arith, same.1))

-- one more is passed
pub counts_on : (forest : Forest) (kind : IndexKind) (n at : ℕ) (node other : TreeNode) (rev : Bool) (next beyond : Option ℕ) (index new : ℕ) (b : Bool) → IsForest forest → Counting forest kind n next index → next ≡ Some at → new ≡ index + cond b 1 0 →
    slice_get forest.content n ≡ Some node.content → IsNodeOf forest at other → rev ≡ is_from_first kind → beyond ≡ (if rev then other.prev_sibling else other.next_sibling) → b ≡ counts_sibling kind node.content other.content →
    Counted forest kind n next beyond new
counts_on forest kind n at node other rev next beyond index new b good counting some grown here is same link decided =
    let back = is_from_first kind in
    let on : beyond ≡ after (in_order back (siblings forest at)) at = link ∙ ap (λ (x : Bool). if x then other.prev_sibling else other.next_sibling) same ∙ neighbour_is forest back at other is in
    let rest = follows forest back at beyond good on in
    let row : row_on forest back next ≡ at ∷ row_on forest back beyond = ap (row_on forest back) some ∙ ap (λ ns. at ∷ ns) (Follows.rest rest) in
    let counts_so : counts kind forest n at ≡ b = counts_is forest kind n at node.content other.content here is.content_is ∙ sym decided in
    let sum : count_by (counts kind forest n) (row_on forest back next) ≡ cond b 1 0 + count_by (counts kind forest n) (row_on forest back beyond) =
    ap (count_by (counts kind forest n)) row ∙ one_more (counts kind forest n) at (row_on forest back beyond) b counts_so in
    let long = ap length row in
    let one : cond b 1 0 ≤ 1 = at_most b in
    let before = counting.same in
    let space = counting.room in
    record {
      counting = record { same = omega arith; room = omega arith; within = Follows.within rest };
      fewer = omega arith;
    }
  where
    at_most : (x : Bool) → cond x 1 0 ≤ 1
    at_most true = omega arith
    at_most false = omega arith

pub counted_all : (forest : Forest) (kind : IndexKind) (n : ℕ) (next : Option ℕ) (index : ℕ) → Counting forest kind n next index → next ≡ None → (index ≡ index_at kind forest n) × (index ≤ 4294967295)
counted_all forest kind n next index counting none =
    let row = ap (row_on forest (is_from_first kind)) none in
    let nothing : count_by (counts kind forest n) (row_on forest (is_from_first kind) next) ≡ 0 = ap (count_by (counts kind forest n)) row in
    let before = counting.same in
    let space = counting.room in
    (omega arith, omega arith)

-- an unknown number has no siblings
pub index_past : (forest : Forest) (kind : IndexKind) (n : ℕ) → IsForest forest → length forest.content ≤ n → 1 ≡ index_at kind forest n
index_past forest kind n good past =
    ap (λ ns. 1 + count_by (counts kind forest n) ns) (sym (alone (is_from_first kind)))
  where
    alone : (rev : Bool) → later forest rev n ≡ []
    alone true = ap (λ ns. rest_after (in_order true ns) n) (siblings_past forest n good.once past)
    alone false = ap (λ ns. rest_after (in_order false ns) n) (siblings_past forest n good.once past)

-- steps of one size

pub AreSteps : ℕ → ℕ → ℕ → Type 0
AreSteps step from to = (k : ℕ) × (from + step * k ≡ to)

pub steps_decide : (step from to : ℕ) (b : Bool) → (to < from → ⊥) → b ≡ nat_eq ((to - from) % step) 0 → MatchBool b ((k : ℕ) × (from + step * k ≡ to)) ((k : ℕ) → from + step * k ≡ to → ⊥)
steps_decide step from to b up decided = elim (cases_Bool b) [
  | inl t ↦ rw t (
      let none : (to - from) % step ≡ 0 = eqb-true ((to - from) % step) 0 (sym decided ∙ t) in
      let whole = div-add-mod (to - from) step in
      let low : from ≤ to = omega arith in
      ((to - from) / step, omega arith))
  | inr f ↦ rw f (λ k e.
      let is : to - from ≡ step * k = omega arith in
      let none : (to - from) % step ≡ 0 = ap (λ (n : ℕ). n % step) is ∙ mul-mod_right step k in
      true≢false (sym (eq-eqb ((to - from) % step) 0 none) ∙ sym decided ∙ f))
]
