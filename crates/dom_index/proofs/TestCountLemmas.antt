-- The number of tests, set by set.
use Rattle.std.proofs.Common.{◌≡◌, ◌↔◌, ◌<◌, ◌≤◌, ◌+◌, ◌-◌, ◌*◌, ◌^◌, ℕ, List, [], ◌∷◌, Bool, true, false, true≢false, refl, sym, ap, ◌∙◌, subst, cond, length, map, min, suc, Result, Ok, Err, arith}
use Rattle.std.specs.Prelude.{◌&&◌}
use Rattle.std.proofs.lemmas.List.{get_or-replicate}
use Rattle.std.proofs.Math.Nat.{add-mul}
use Rattle.std.proofs.lemmas.List.Sums.{count_by-le-length, sum_by-cons}
use Rattle.std.specs.Result.{IfOk}
use Rattle.dom_links.specs.Forest.{Forest}
use Rattle.dom_selectors.specs.declared.syntax.Combinator.{Combinator}
use Rattle.dom_selectors.specs.declared.syntax.Compound.{Compound}
use Rattle.dom_selectors.specs.ListsAsTrees.{lists_of}
use Rattle.dom_selectors.specs.ValuesAsTrees.{read_compound, read_nested}
use Rattle.dom_selectors.specs.Spelling.{Decides}
use Rattle.dom_selectors.specs.Syntax.{CompoundSelector, NestedList, SelectorList, alternative, Steps, no_steps, step}
use Rattle.dom_select.specs.Meaning.{ListHolds, ListsHold}
use Rattle.dom_selectors.proofs.Layers.{read_compound_is}
use Rattle.dom_index.specs.TestCounts.{IsFilteredByCompound, IsFilteredByList, CompoundTests, AddsTests, IsNeeded, RelativeTests, HasTests, ListsTests, RestTests, SelectorTests, SelectorsTests, StepsTests, everywhere, cardinality}
use Rattle.dom_index.specs.CompoundCounts.{compound_count, lists_count}
use Rattle.dom_index.specs.RestMatches.{RestMatches}
use Rattle.dom_index.specs.NodeSets.{IsPrefiltered, IsIntersection, IsSetOf, IsSetWithin, HasLeftOperand, in_set}
use Rattle.dom_index.proofs.ChainLemmas.{both_true, decided_true}
use Rattle.dom_index.proofs.ForwardLemmas.{decided_by}

-- the tests that were added to `old`, and those in all where so many more are added
pub record Asking (old now : ℕ) (All Left : ℕ → Type 0) : Type 0 where
  pub so_far : ℕ
  pub counted : old + so_far < 2 ^ 128 → now ≡ old + so_far
  pub going : (rest : ℕ) → Left rest → All (so_far + rest)

pub asking_none : (n : ℕ) (All : ℕ → Type 0) → Asking n n All All
asking_none n All = record { so_far = 0; counted = λ fits. omega arith; going = λ rest h. let same : rest ≡ 0 + rest = omega arith in subst All same h }

pub asking_more : (old now new : ℕ) (All Left One More : ℕ → Type 0) → Asking old now All Left → AddsTests now new One → ((one rest : ℕ) → One one → More rest → Left (one + rest)) → Asking old new All More
asking_more old now new All Left One More asking (one, asked, counted) join = record {
  so_far = asking.so_far + one;
  counted = λ fits. let before : now ≡ old + asking.so_far = asking.counted (omega arith) in let after : new ≡ now + one = counted (omega arith) in omega arith;
  going = λ rest h. let same : asking.so_far + (one + rest) ≡ (asking.so_far + one) + rest = omega arith in subst All same (asking.going (one + rest) (join one rest asked h));
}

pub asking_last : (old now : ℕ) (All Left : ℕ → Type 0) → Asking old now All Left → Left 0 → AddsTests old now All
asking_last old now All Left asking none =
    let same : asking.so_far + 0 ≡ asking.so_far = omega arith in (asking.so_far, subst All same (asking.going 0 none), asking.counted)

-- the tests at the end
pub asking_end : (old now new : ℕ) (All Left : ℕ → Type 0) → Asking old now All Left → AddsTests now new Left → AddsTests old new All
asking_end old now new All Left asking (one, asked, counted) = (
  asking.so_far + one,
  asking.going one asked,
  λ fits. let before : now ≡ old + asking.so_far = asking.counted (omega arith) in let after : new ≡ now + one = counted (omega arith) in omega arith,
)

-- a subset has no more nodes
pub fewer : (xs ys : List Bool) → length xs ≡ length ys → ((n : ℕ) → n < length ys → in_set xs n ≡ true → in_set ys n ≡ true) → cardinality xs ≤ cardinality ys
fewer [] ys long h = omega arith
fewer (x ∷ xs) [] long h = absurd (omega arith)
fewer (x ∷ xs) (y ∷ ys) long h =
    let rest = fewer xs ys (omega arith) (λ n below. h (suc n) (omega arith)) in
    let one = sum_by-cons (λ b. cond b 1 0) x xs in
    let other = sum_by-cons (λ b. cond b 1 0) y ys in
    let first = at x y (h 0 (omega arith)) in
    omega arith
  where
    at : (a b : Bool) → (a ≡ true → b ≡ true) → cond a 1 0 ≤ cond b 1 0
    at true true h = omega arith
    at true false h = absurd (true≢false (sym (h refl)))
    at false b h = omega arith

module _ (forest : Forest) (c : Compound) where
  -- a compound is tested at each node of the set, and its lists
  pub compound_asks : (wanted left : List Bool) (more tests : ℕ) → IsPrefiltered forest (read_compound c) left wanted → ListsTests (lists_of (map read_nested c.nested.items)) forest left more → tests ≡ cardinality wanted + more →
      CompoundTests (read_compound c) forest wanted tests
  compound_asks wanted left more tests asked lists sum =
      subst (λ k. CompoundTests k forest wanted tests) (sym (read_compound_is c)) (left, more, subst (λ k. IsPrefiltered forest k left wanted) (read_compound_is c) asked, lists, sum)

-- the set where a list matches too
pub kept_decided : (forest : Forest) (list : NestedList) (wanted answer left : List Bool) → length wanted ≡ length forest.content → IsSetWithin wanted answer (length forest.content) (ListHolds list forest) → IsIntersection left wanted answer →
    IsFilteredByList list forest wanted left
kept_decided forest list wanted answer left long holds both = record {
  long = both.long ∙ long;
  each = λ n known. at n _ _ _ refl (both.each n (let same = long in omega arith)) (holds.each n known);
}
  where
    at : (n : ℕ) (w a b : Bool) → in_set wanted n ≡ a → w ≡ (a && b) → (in_set wanted n ≡ true → Decides b (ListHolds list forest n)) → Decides w ((in_set wanted n ≡ true) × ListHolds list forest n)
    at n true true true is e h = (is, h is)
    at n false true true is e h = absurd (true≢false (sym e))
    at n true true false is e h = absurd (true≢false e)
    at n false true false is e h = λ x. h is x.1
    at n true false b is e h = absurd (true≢false e)
    at n false false b is e h = λ x. true≢false (sym x.0 ∙ is)

-- the later compounds of a relative selector, and one before them
pub relative_tests : (forest : Forest) (c : CompoundSelector) (rest : Steps) (here : List Bool) (old now new : ℕ) → IsSetOf here (length forest.content) (RestMatches rest forest) → AddsTests old now (RestTests rest forest) → AddsTests now new (CompoundTests c forest here) →
    AddsTests old new (RelativeTests c rest forest)
relative_tests forest c rest here old now new answer (behind, steps, before) (one, asked, after) = (
  behind + one,
  (here, one, behind, answer, asked, steps, refl),
  λ fits. let b : now ≡ old + behind = before (omega arith) in let a : new ≡ now + one = after (omega arith) in omega arith,
)

-- equivalent facts have the same set
recast : (table : List Bool) (count : ℕ) (P Q : ℕ → Type 0) → IsSetOf table count P → ((n : ℕ) → n < count → P n ↔ Q n) → IsSetOf table count Q
recast table count P Q answer same = record { long = answer.long; each = λ n known. decided_by (in_set table n) (P n) (Q n) (same n known).0 (same n known).1 (answer.each n known) }

decided_itself : (b : Bool) → Decides b (b ≡ true)
decided_itself true = refl
decided_itself false = λ e. true≢false (sym e)

-- a compound at the nodes of a set, and those after it
abbrev pub NextAsks : CompoundSelector → Steps → Forest → List Bool → List Bool → ℕ → Type 0
NextAsks c rest forest reached wanted tests =
    (here : List Bool) × (held : List Bool) × (one : ℕ) × (behind : ℕ) × IsSetOf here (length forest.content) (λ n. (in_set reached n ≡ true) × IsNeeded rest wanted n)
    × CompoundTests c forest here one × IsFilteredByCompound c forest here held × StepsTests rest forest held wanted behind × (tests ≡ one + behind)

module _ (forest : Forest) (c : CompoundSelector) (rest : Steps) (reached wanted : List Bool) where
  -- a selector's first compound is tested everywhere
  pub asks_first : reached ≡ everywhere forest → (tests : ℕ) → NextAsks c rest forest reached wanted tests → SelectorTests c rest forest wanted tests
  asks_first all tests (here, held, one, behind, answer, asks, holds, steps, sum) = (
    here,
    held,
    one,
    behind,
    recast here (length forest.content) _ (IsNeeded rest wanted) answer (λ n known. (λ x. x.1, λ w. (ap (λ cells. in_set cells n) all ∙ get_or-replicate (length forest.content) n true false known, w))),
    asks,
    holds,
    steps,
    sum,
  )

  -- each other one from the compound before
  pub asks_next : (k : Combinator) (before : List Bool) → IsSetOf reached (length forest.content) (HasLeftOperand forest k before) → (tests : ℕ) → NextAsks c rest forest reached wanted tests → StepsTests (step k c rest) forest before wanted tests
  asks_next k before is_reached tests (here, held, one, behind, answer, asks, holds, steps, sum) = (
    here,
    held,
    one,
    behind,
    recast here (length forest.content) _ _ answer (λ n known. (λ x. (rw x.0 at (is_reached.each n known), x.1), λ x. (decided_true (in_set reached n) (HasLeftOperand forest k before n) (is_reached.each n known) x.0, x.1))),
    asks,
    holds,
    steps,
    sum,
  )

  -- the subject at the nodes of the set
  pub asks_last : rest ≡ no_steps → (both held : List Bool) → length reached ≡ length forest.content → IsIntersection both reached wanted → IsFilteredByCompound c forest both held → (tests : ℕ) → CompoundTests c forest both tests → NextAsks c rest forest reached wanted tests
  asks_last none both held long narrowed answer tests asks = subst (λ steps. NextAsks c steps forest reached wanted tests) (sym none) (
    both,
    held,
    tests,
    0,
    record {
      long = narrowed.long ∙ long;
      each = λ n known. decided_by (in_set both n) (in_set both n ≡ true) ((in_set reached n ≡ true) × (in_set wanted n ≡ true))
          (λ t. both_true (in_set reached n) (in_set wanted n) (sym (cell n known) ∙ t)) (λ x. cell n known ∙ (rw (x.0, x.1) refl)) (decided_itself (in_set both n));
    },
    asks,
    answer,
    refl,
    omega arith,
  )
    where
      cell : (n : ℕ) → n < length forest.content → in_set both n ≡ (in_set reached n && in_set wanted n)
      cell n known = narrowed.each n (subst (λ (m : ℕ). n < m) (sym long) known)

-- where others follow, a compound is tested wherever its combinator reaches
pub asks_more : (forest : Forest) (c next : CompoundSelector) (k : Combinator) (rest : Steps) (reached there held wanted : List Bool) → length reached ≡ length forest.content → IsFilteredByCompound c forest reached held → IsSetOf there (length forest.content) (HasLeftOperand forest k held) →
    (one behind : ℕ) → CompoundTests c forest reached one → NextAsks next rest forest there wanted behind → NextAsks c (step k next rest) forest reached wanted (one + behind)
asks_more forest c next k rest reached there held wanted long answer propagate_forward one behind asks more = (
  reached,
  held,
  one,
  behind,
  record { long = long; each = λ n known. decided_by (in_set reached n) (in_set reached n ≡ true) _ (λ t. (t, tt)) (λ x. x.0) (decided_itself (in_set reached n)) },
  asks,
  answer,
  asks_next forest next rest there wanted k held propagate_forward behind more,
  refl,
)

-- a selector, and the others of its list
pub asks_selectors : (lead : Combinator) (first : CompoundSelector) (rest : Steps) (more : SelectorList) (forest : Forest) (wanted : List Bool) (one others : ℕ) → SelectorTests first rest forest wanted one → SelectorsTests more forest wanted others →
    SelectorsTests (alternative lead first rest more) forest wanted (one + others)
asks_selectors lead first rest more forest wanted one others (here, held, own, behind, answer, asks, holds, steps, sum) list = (here, held, own, behind, others, answer, asks, holds, steps, list, ap (λ n. n + others) sum)

pub tests_relative : (lead : Combinator) (first : CompoundSelector) (rest : Steps) (more : SelectorList) (forest : Forest) (one others : ℕ) → RelativeTests first rest forest one → HasTests more forest others →
    HasTests (alternative lead first rest more) forest (one + others)
tests_relative lead first rest more forest one others (here, own, behind, answer, asks, steps, sum) list = (here, own, behind, others, answer, asks, steps, list, ap (λ n. n + others) sum)

-- two facts of what there is
pub ok_both : {T E : Type 0} (r : Result T E) (P Q R : T → Type 0) → ((x : T) → P x → Q x → R x) → IfOk r P → IfOk r Q → IfOk r R
ok_both (Ok x) P Q R h p q = h x p q
ok_both (Err e) P Q R h p q = tt

pub asking_from : (n : ℕ) (All Left : ℕ → Type 0) → ((rest : ℕ) → Left rest → All rest) → Asking n n All Left
asking_from n All Left from = record { so_far = 0; counted = λ fits. omega arith; going = λ rest h. let same : rest ≡ 0 + rest = omega arith in subst All same (from rest h) }

module _ (forest : Forest) (c : Compound) (wanted named narrowed : List Bool) (long : length wanted ≡ length forest.content) (asked : IsPrefiltered forest (read_compound c) named wanted)
    (answer : IsSetOf narrowed (length forest.content) (λ n. (in_set named n ≡ true) × ListsHold (lists_of (map read_nested c.nested.items)) forest n)) where
  -- no more nodes are left than there were
  pub left_fewer : cardinality narrowed ≤ cardinality wanted
  left_fewer = fewer narrowed wanted (answer.long ∙ sym long) (λ n below t. asked.answer n below (here n (subst (λ (m : ℕ). n < m) long below) t))
    where
      here : (n : ℕ) → n < length forest.content → in_set narrowed n ≡ true → in_set named n ≡ true
      here n known t = (rw t at (answer.each n known)).0

  -- those that are left are tested, and those that were excluded count too
  pub counts_compound : (old lists_asked turned new all left : ℕ) → all ≡ cardinality wanted → left ≡ cardinality narrowed → AddsTests old lists_asked (ListsTests (lists_of (map read_nested c.nested.items)) forest named) →
      turned ≡ min (lists_asked + (all - left)) (2 ^ 128 - 1) → AddsTests turned new (λ n. n ≡ cardinality narrowed) → AddsTests old new (CompoundTests (read_compound c) forest wanted)
  counts_compound old lists_asked turned new all left is_all is_left (more, lists, before) sum (own, is_own, after) =
      let few = left_fewer in (
        cardinality wanted + more,
        compound_asks forest c wanted named more (cardinality wanted + more) asked lists refl,
        λ fits.
            let b : lists_asked ≡ old + more = before (omega arith) in
            let t : turned ≡ lists_asked + (all - left) = omega arith in
            let a : new ≡ turned + own = after (omega arith) in
            omega arith,
      )

  pub most_of_compound : (old lists_asked turned new all left : ℕ) → all ≡ cardinality wanted → left ≡ cardinality narrowed → lists_asked ≤ old + lists_count (lists_of (map read_nested c.nested.items)) * length forest.content →
      turned ≡ min (lists_asked + (all - left)) (2 ^ 128 - 1) → new ≤ turned + cardinality narrowed → new ≤ old + compound_count (read_compound c) * length forest.content
  most_of_compound old lists_asked turned new all left is_all is_left before sum after =
      let few = left_fewer in
      let whole = count_by-le-length (λ b. b) wanted in
      let lists : ℕ = lists_count (lists_of (map read_nested c.nested.items)) in
      let counted : compound_count (read_compound c) * length forest.content ≡ (1 + lists) * length forest.content = ap (λ k. compound_count k * length forest.content) (read_compound_is c) in
      let apart : (1 + lists) * length forest.content ≡ 1 * length forest.content + lists * length forest.content = add-mul 1 lists (length forest.content) in
      omega arith
