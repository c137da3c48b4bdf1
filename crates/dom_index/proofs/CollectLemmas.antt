-- The elements collected from the set of a selector list are those that the list selects.
use Rattle.std.proofs.Common.{◌≡◌, ◌≢◌, ◌<◌, ℕ, List, [], ◌∷◌, ◌++◌, Bool, true, false, cond, true≢false, MatchBool, inl, inr, refl, sym, ap, ◌∙◌, subst, length, set, append_assoc, drop, get_or, ◌+◌}
use Rattle.std.specs.Prelude.{◌&&◌, ◌||◌, ◌==◌}
use Rattle.std.specs.List.{flat_map}
use Rattle.std.proofs.lemmas.Bool.{cases_Bool, eq-eqb, eqb-true, or_right}
use Rattle.std.proofs.lemmas.List.{length-set}
use Rattle.dom_links.specs.Forest.{Forest}
use Rattle.dom_links.specs.Lists.{is_member}
use Rattle.dom_links.proofs.forest.Neighbours.{is_member-append}
use Rattle.dom_links.specs.ListMoves.{element_at}
use Rattle.dom_select.specs.Meaning.{MatchesNode}
use Rattle.dom_select.specs.Selected.{FiltersTo, Selected, first_occurrences}
use Rattle.dom_selectors.specs.Syntax.{SelectorList}
use Rattle.dom_links.specs.Trees.{descendants_in_order}
use Rattle.dom_index.specs.Collected.{collected, set_left}
use Rattle.dom_selectors.specs.Spelling.{Decides}
use Rattle.dom_index.specs.NodeSets.{IsSetOf, in_set}
use Rattle.dom_index.proofs.ListLemmas.{row_cut}
use Rattle.dom_index.proofs.FillLemmas.{written_here, written_elsewhere}
use Rattle.dom_index.proofs.PlaceLemmas.{same_or_not}

module _ (forest : Forest) where
  abbrev chosen : List Bool → ℕ → Bool
  chosen table n = in_set table n && element_at forest n

  pub collected-append : (table : List Bool) (xs ys : List ℕ) → collected forest table (xs ++ ys) ≡ collected forest table xs ++ collected forest (set_left forest table xs) ys
  collected-append table [] ys = refl
  collected-append table (n ∷ xs) ys =
      elim (chosen table n) as (λ b. cond b (n ∷ collected forest (set table n false) (xs ++ ys)) (collected forest table (xs ++ ys))
      ≡ cond b (n ∷ collected forest (set table n false) xs) (collected forest table xs) ++ collected forest (cond b (set_left forest (set table n false) xs) (set_left forest table xs)) ys) [
        | true ↦ ap (λ ns. n ∷ ns) (collected-append (set table n false) xs ys)
        | false ↦ collected-append table xs ys
      ]

  pub left-append : (table : List Bool) (xs ys : List ℕ) → set_left forest table (xs ++ ys) ≡ set_left forest (set_left forest table xs) ys
  left-append table [] ys = refl
  left-append table (n ∷ xs) ys =
      elim (chosen table n) as (λ b. cond b (set_left forest (set table n false) (xs ++ ys)) (set_left forest table (xs ++ ys))
      ≡ set_left forest (cond b (set_left forest (set table n false) xs) (set_left forest table xs)) ys) [
        | true ↦ left-append (set table n false) xs ys
        | false ↦ left-append table xs ys
      ]

  pub left_long : (table : List Bool) (ns : List ℕ) → length (set_left forest table ns) ≡ length table
  left_long table [] = refl
  left_long table (n ∷ ns) =
      elim (chosen table n) as (λ b. length (cond b (set_left forest (set table n false) ns) (set_left forest table ns)) ≡ length table) [
        | true ↦ left_long (set table n false) ns ∙ length-set table n false
        | false ↦ left_long table ns
      ]

  module _ (list : SelectorList) where
    abbrev IsIt : ℕ → Type 0
    IsIt n = (element_at forest n ≡ true) × MatchesNode list forest n

    -- the set has what matches and didn't come before
    abbrev IsNew : List Bool → List ℕ → ℕ → Type 0
    IsNew table before n = MatchBool (chosen table n) (IsIt n × (is_member n before ≡ false)) (IsIt n → is_member n before ≡ true)

    later_before : (n m : ℕ) (before : List ℕ) (b : Bool) → m ≢ n → is_member m before ≡ b → is_member m (n ∷ before) ≡ b
    later_before n m before b other e = elim (cases_Bool (n == m)) [
      | inl t ↦ absurd (other (sym (eqb-true n m t)))
      | inr f ↦ ap (λ c. c || is_member m before) f ∙ e
    ]

    here_before : (n : ℕ) (before : List ℕ) → is_member n (n ∷ before) ≡ true
    here_before n before = ap (λ c. c || is_member n before) (eq-eqb n n refl)

    in_set_at : (b : Bool) (m : ℕ) (one other : List ℕ) → ((c : Bool) → is_member m one ≡ c → is_member m other ≡ c) →
        MatchBool b (IsIt m × (is_member m one ≡ false)) (IsIt m → is_member m one ≡ true) → MatchBool b (IsIt m × (is_member m other ≡ false)) (IsIt m → is_member m other ≡ true)
    in_set_at true m one other same h = (h.0, same false h.1)
    in_set_at false m one other same h = λ i. same true (h i)

    -- n is collected
    in_set_added : (count n : ℕ) (table : List Bool) (before : List ℕ) → n < length table → ((m : ℕ) → m < count → IsNew table before m) → (m : ℕ) → m < count → IsNew (set table n false) (n ∷ before) m
    in_set_added count n table before known answer m inside = elim (same_or_not m n) [
      | inl e ↦ subst (λ k. IsNew (set table n false) (n ∷ before) k) (sym e)
          (subst (λ b. MatchBool (b && element_at forest n) (IsIt n × (is_member n (n ∷ before) ≡ false)) (IsIt n → is_member n (n ∷ before) ≡ true)) (sym (written_here table n false known)) (λ _. here_before n before))
      | inr other ↦ subst (λ b. MatchBool (b && element_at forest m) (IsIt m × (is_member m (n ∷ before) ≡ false)) (IsIt m → is_member m (n ∷ before) ≡ true)) (sym (written_elsewhere table n m false other))
          (in_set_at (chosen table m) m before (n ∷ before) (λ c e. later_before n m before c other e) (answer m inside))
    ]

    -- n doesn't match
    in_set_passed : (count n : ℕ) (table : List Bool) (before : List ℕ) → (IsIt n → ⊥) → chosen table n ≡ false → ((m : ℕ) → m < count → IsNew table before m) → (m : ℕ) → m < count → IsNew table (n ∷ before) m
    in_set_passed count n table before out e answer m inside = elim (same_or_not m n) [
      | inl same ↦ subst (λ k. IsNew table (n ∷ before) k) (sym same) (rw e (λ i. absurd (out i)))
      | inr other ↦ in_set_at (chosen table m) m before (n ∷ before) (λ c is. later_before n m before c other is) (answer m inside)
    ]

    collected_new : (count : ℕ) (ns before : List ℕ) (table : List Bool) → length table ≡ count → ((m : ℕ) → is_member m ns ≡ true → m < count) → ((m : ℕ) → m < count → IsNew table before m) →
        FiltersTo IsIt (first_occurrences before ns) (collected forest table ns)
    collected_new count [] before table long inside answer = refl
    collected_new count (n ∷ ns) before table long inside answer =
        let known = inside n (here_before n ns) in
        let within = subst (λ (k : ℕ). n < k) (sym long) known in
        let rest : (m : ℕ) → is_member m ns ≡ true → m < count = λ m s. inside m (or_right (n == m) (is_member m ns) s) in
        at (is_member n before) (chosen table n) refl refl (answer n known) within (λ later left is is_member. collected_new count ns later left is rest is_member)
      where
        at : (s c : Bool) → is_member n before ≡ s → chosen table n ≡ c → IsNew table before n → n < length table →
            ((later : List ℕ) (left : List Bool) → length left ≡ count → ((m : ℕ) → m < count → IsNew left later m) → FiltersTo IsIt (first_occurrences later ns) (collected forest left ns)) →
            FiltersTo IsIt (first_occurrences before (n ∷ ns)) (collected forest table (n ∷ ns))
        at true true e f h within next = let here : IsIt n × (is_member n before ≡ false) = rw f at h in absurd (true≢false (sym e ∙ here.1))
        at true false e f h within next = rw (e, f) (next before table long answer)
        at false true e f h within next =
            let here : IsIt n × (is_member n before ≡ false) = rw f at h in
            rw (e, f) (inl (here.0, collected forest (set table n false) ns, refl, next (n ∷ before) (set table n false) (length-set table n false ∙ long) (in_set_added count n table before within answer)))
        at false false e f h within next =
            let here : IsIt n → is_member n before ≡ true = rw f at h in
            let out : IsIt n → ⊥ = λ i. true≢false (sym (here i) ∙ e) in
            rw (e, f) (inr (out, next (n ∷ before) table long (in_set_passed count n table before out f answer)))

    decided_first : (t e : Bool) (n : ℕ) → element_at forest n ≡ e → Decides t (MatchesNode list forest n) → MatchBool (t && e) (IsIt n × (is_member n [] ≡ false)) (IsIt n → is_member n [] ≡ true)
    decided_first true true n is h = ((is, h), refl)
    decided_first true false n is h = λ i. absurd (true≢false (sym i.0 ∙ is))
    decided_first false e n is h = λ i. absurd (h i.1)

    pub collected_selected : (roots : List ℕ) (table : List Bool) → ((m : ℕ) → is_member m (flat_map (descendants_in_order forest) roots) ≡ true → m < length forest.content) →
        IsSetOf table (length forest.content) (MatchesNode list forest) → Selected forest roots list (collected forest table (flat_map (descendants_in_order forest) roots))
    unfolding Selected
    collected_selected roots table inside answer =
        collected_new (length forest.content) (flat_map (descendants_in_order forest) roots) [] table answer.long inside (λ m known. decided_first (in_set table m) (element_at forest m) m refl (answer.each m known))

-- a walk in which a node is looked at: what was collected, what is to come, and the table that is left
pub record Collected (forest : Forest) (found : List ℕ) (table : List Bool) (left all : List ℕ) (end : List Bool) : Type 0 where
  pub long : length table ≡ length forest.content
  pub inside : (m : ℕ) → is_member m left ≡ true → m < length forest.content
  pub all_collected : found ++ collected forest table left ≡ all
  pub rest : set_left forest table left ≡ end

module _ (forest : Forest) (found : List ℕ) (table : List Bool) (left more : List ℕ) (n : ℕ) (all : List ℕ) (end : List Bool) (h : Collected forest found table left all end) (step : left ≡ n ∷ more) where
  pub next_inside : n < length forest.content
  next_inside = h.inside n (ap (is_member n) step ∙ ap (λ c. c || is_member n more) (eq-eqb n n refl))

  later_inside : (m : ℕ) → is_member m more ≡ true → m < length forest.content
  later_inside m s = h.inside m (ap (is_member m) step ∙ or_right (n == m) (is_member m more) s)

  pub collect_it : (b : Bool) → b ≡ (in_set table n && element_at forest n) → b ≡ true → Collected forest (found ++ n ∷ []) (set table n false) more all end
  collect_it b is t =
      let chosen : (in_set table n && element_at forest n) ≡ true = sym is ∙ t in
      let added : found ++ collected forest table (n ∷ more) ≡ all = subst (λ ns. found ++ collected forest table ns ≡ all) step h.all_collected in
      let left_so : set_left forest table (n ∷ more) ≡ end = subst (λ ns. set_left forest table ns ≡ end) step h.rest in
      record {
        long = length-set table n false ∙ h.long;
        inside = later_inside;
        all_collected = append_assoc found (n ∷ []) (collected forest (set table n false) more) ∙ rw chosen at added;
        rest = rw chosen at left_so;
      }

  pub collect_there : (b : Bool) (new : List ℕ) (i : ℕ) → b ≡ (in_set table n && element_at forest n) → b ≡ true → new ≡ found ++ n ∷ [] → i ≡ n → Collected forest new (set table i false) more all end
  collect_there b new i is t e f = subst (λ ns. Collected forest ns (set table i false) more all end) (sym e) (subst (λ k. Collected forest (found ++ n ∷ []) (set table k false) more all end) (sym f) (collect_it b is t))

  pub pass_it : (b : Bool) → b ≡ (in_set table n && element_at forest n) → b ≡ false → Collected forest found table more all end
  pass_it b is f =
      let chosen : (in_set table n && element_at forest n) ≡ false = sym is ∙ f in
      let added : found ++ collected forest table (n ∷ more) ≡ all = subst (λ ns. found ++ collected forest table ns ≡ all) step h.all_collected in
      let left_so : set_left forest table (n ∷ more) ≡ end = subst (λ ns. set_left forest table ns ≡ end) step h.rest in
      record {
        long = h.long;
        inside = later_inside;
        all_collected = rw chosen at added;
        rest = rw chosen at left_so;
      }

pub walks_inside : (forest : Forest) (roots : List ℕ) → ((n m : ℕ) → is_member m (descendants_in_order forest n) ≡ true → m < length forest.content) →
    (m : ℕ) → is_member m (flat_map (descendants_in_order forest) roots) ≡ true → m < length forest.content
walks_inside forest [] inside m s = absurd (true≢false (sym s))
walks_inside forest (r ∷ roots) inside m s = elim (cases_Bool (is_member m (descendants_in_order forest r))) [
  | inl t ↦ inside r m t
  | inr f ↦ walks_inside forest roots inside m (ap (λ b. b || is_member m (flat_map (descendants_in_order forest) roots)) (sym f) ∙ (sym (is_member-append (descendants_in_order forest r) (flat_map (descendants_in_order forest) roots) m) ∙ s))
]

-- roots that are left: a root's walk, and the others'
pub roots_cut : (forest : Forest) (i : ℕ) (roots : List ℕ) (r : ℕ) → i < length roots → r ≡ get_or roots i r → flat_map (descendants_in_order forest) (drop i roots) ≡ descendants_in_order forest r ++ flat_map (descendants_in_order forest) (drop (i + 1) roots)
roots_cut forest i roots r known is = ap (flat_map (descendants_in_order forest)) (row_cut i roots r known is)

pub root_collected : (forest : Forest) (found new : List ℕ) (table left : List Bool) (walk more : List ℕ) (all : List ℕ) → new ≡ found ++ collected forest table walk → left ≡ set_left forest table walk →
    found ++ collected forest table (walk ++ more) ≡ all → new ++ collected forest left more ≡ all
root_collected forest found new table left walk more all e f h =
    ap (λ ns. ns ++ collected forest left more) e ∙ (append_assoc found (collected forest table walk) (collected forest left more)
    ∙ (ap (λ t. found ++ (collected forest table walk ++ collected forest t more)) f
    ∙ (ap (λ ns. found ++ ns) (sym (collected-append forest table walk more)) ∙ h)))
