-- The end tag `form` where no template is open: the form that the form element pointer named is removed from the stack, if it is in scope.
use Rattle.std.proofs.Common.{◌≡◌, ℕ, ◌<◌, ◌≤◌, ◌+◌, ◌&&◌, not, nat_eq, eqb, Bool, true, false, List, [], ◌∷◌, ◌++◌, filter, map, take, reverse, refl, sym, ap, ◌∙◌, length, Some, None, subst, suc, zero, arith, inl, inr, true≢false, codes, if◌then◌else◌}
use Rattle.std.specs.Prelude.{remove, slice_get}
use Rattle.std.proofs.Math.ListN.{get_or}
use Rattle.std.proofs.lemmas.Bool.{cases_lt, eq-eqb, eqb-true, ne_eqb}
use Rattle.std.proofs.lemmas.List.{reverse-append}
use Rattle.std.proofs.lemmas.Option.{get_or_from_slice_get, slice_get_within}
use Rattle.dom_links.specs.Forest.{Forest}
use Rattle.standard_trees.specs.Formatting.{form_ended}
use Rattle.standard_trees.specs.GrowingTree.{FormAt, FormPointer as StandardForm, GrowingTree, NoForm, ends_scope as ends_scope_of, implied_of, in_scope, is_one as is_one_of, unstacked, with_stack}
use Rattle.standard_trees.specs.NameLists.{implied}
use Rattle.standard_trees.specs.RuleWords.{Scope as DefaultScope}
use Rattle.standard_trees.specs.TreeStore.{Node, without}
use Rattle.page_trees.specs.Elements.{IsInOrder}
use Rattle.page_trees.specs.FormEnds.{without_form}
use Rattle.page_trees.specs.Reopening.{index_at, is_this}
use Rattle.page_trees.specs.Scopes.{is_named, last_place, scope_names}
use Rattle.page_trees.specs.Sets.{ends_scope}
use Rattle.page_trees.specs.Stands.{AllStand, Builds, IsFormNamed, IsStackOf, StandsFor, form_of}
use Rattle.page_trees.specs.TreeState.{TreeState}
use Rattle.page_trees.specs.declared.name.Name.{Name}
use Rattle.page_trees.specs.declared.pointers.FormPointer.{FormPointer}
use Rattle.page_trees.specs.declared.sets.Scope.{Scope}
use Rattle.page_trees.specs.declared.stack.Open.{Open}
use Rattle.page_trees.proofs.AgencyEnds.{both_true, index_none, index_some, scope_known, searched, turned_test}
use Rattle.page_trees.proofs.BuiltStacks.{built_on}
use Rattle.page_trees.proofs.NumberedNames.{front_numbered, removed_numbered}
use Rattle.page_trees.proofs.ScopeLemmas.{by_ends, last_place_push, scope_search, slice_get_end, slice_get_left}
use Rattle.page_trees.proofs.StandingNames.{named_agrees, one_agrees}

-- ---- the form on the stack

-- node n is a form
abbrev pub IsFormNode : GrowingTree → ℕ → Type 0
IsFormNode t n = is_one_of t (codes "form" ∷ []) n ≡ true

form_is : (t : GrowingTree) (n : ℕ) → IsFormNode t n → (o : Open) → StandsFor t.nodes o → is_this Name.Form n o ≡ nat_eq n o.id
form_is t n form o so =
    both_true (is_named Name.Form o) (eqb o.id n)
    (λ e. named_agrees Name.Form refl t o so ∙ ap (is_one_of t (codes "form" ∷ [])) (eqb-true o.id n e) ∙ form)
    ∙ turned_test n o.id

scope_is : (s : TreeState) (t : GrowingTree) (n : ℕ) → Builds s t → IsFormNode t n →
    in_scope (is_this Name.Form n) ends_scope (reverse s.stack) ≡ in_scope (nat_eq n) (ends_scope_of DefaultScope t) t.stack
scope_is s t n b form =
    searched (is_this Name.Form n) ends_scope (nat_eq n) (ends_scope_of DefaultScope t) t (form_is t n form)
    (λ o so. one_agrees (scope_names Scope.Default) scope_known t o so) (reverse s.stack) b.stack.nodes
    ∙ ap (in_scope (nat_eq n) (ends_scope_of DefaultScope t)) (sym b.stack.ids)

abbrev by_scope : Bool → ℕ → GrowingTree → GrowingTree
by_scope x n t = elim x [ true ↦ unstacked n (implied_of implied [] t) | false ↦ t ]

-- it is not in scope
stays_open : (s : TreeState) (t : GrowingTree) (n : ℕ) → in_scope (nat_eq n) (ends_scope_of DefaultScope t) t.stack ≡ false → Builds s t →
    Builds s (form_ended (FormAt n) t)
stays_open s t n out b = subst (λ x. Builds s (by_scope x n t)) (sym out) b

pub form_closed_before : (view old : TreeState) (t : GrowingTree) (n : ℕ) → view ≡ old → None ≡ index_at (last_place (is_this Name.Form n) view.stack) → IsFormNode t n → Builds old t →
    Builds old (form_ended (FormAt n) t)
form_closed_before view old t n same none form b =
    let here : Builds view t = subst (λ (o : TreeState). Builds o t) (sym same) b in
    let place : last_place (is_this Name.Form n) view.stack ≡ 0 = index_none _ none in
    stays_open old t n
    (sym (scope_is view t n here form) ∙ (scope_search (is_this Name.Form n) ends_scope view.stack).missed (λ lt le. absurd (omega (arith, lt, place)))) b

pub form_out_of_scope : (view old : TreeState) (t : GrowingTree) (n p : ℕ) (x : Bool) → view ≡ old → Some p ≡ index_at (last_place (is_this Name.Form n) view.stack) →
    (last_place ends_scope view.stack ≤ p + 1 → x ≡ true) → x ≡ false → IsFormNode t n → Builds old t → Builds old (form_ended (FormAt n) t)
form_out_of_scope view old t n p x same some scope lacks form b =
    let here : Builds view t = subst (λ (o : TreeState). Builds o t) (sym same) b in
    let place : last_place (is_this Name.Form n) view.stack ≡ p + 1 = index_some _ p some in
    stays_open old t n
    (sym (scope_is view t n here form) ∙ (scope_search (is_this Name.Form n) ends_scope view.stack).missed
    (λ lt le. true≢false (sym (scope (omega (arith, le, place))) ∙ lacks))) b

-- ---- an element is removed from the stack

-- the elements with this id are those at a place
record IsOnly (n p : ℕ) (os : List Open) : Type 0 where
  id : (o : Open) → slice_get os p ≡ Some o → o.id ≡ n
  place : (k : ℕ) (o : Open) → slice_get os k ≡ Some o → o.id ≡ n → k ≡ p

abbrev stays : ℕ → Open → Bool
stays n o = not (nat_eq o.id n)

other_stays : (n : ℕ) (o : Open) → (o.id ≡ n → ⊥) → stays n o ≡ true
other_stays n o other = ap not (ne_eqb o.id n other)

none_gone : (n : ℕ) (os : List Open) → ((k : ℕ) (o : Open) → slice_get os k ≡ Some o → o.id ≡ n → ⊥) → filter (stays n) os ≡ os
none_gone n [] none = refl
none_gone n (o ∷ os) none =
    ap (λ x. if x then o ∷ filter (stays n) os else filter (stays n) os) (other_stays n o (λ e. none 0 o refl e))
    ∙ ap (λ (ps : List Open). o ∷ ps) (none_gone n os (λ k p at e. none (suc k) p at e))

zero_not_suc : (k : ℕ) → suc k ≡ 0 → ⊥
zero_not_suc k e = omega (arith, e)

less_one : (k p : ℕ) → suc k ≡ suc p → k ≡ p
less_one k p e = omega (arith, e)

removed_is : (n p : ℕ) (os : List Open) → IsOnly n p os → remove os p ≡ filter (stays n) os
removed_is n zero [] only = refl
removed_is n (suc p) [] only = refl
removed_is n zero (o ∷ os) only =
    sym (ap (λ x. if not x then o ∷ filter (stays n) os else filter (stays n) os) (eq-eqb o.id n (only.id o refl))
    ∙ none_gone n os (λ k q at e. zero_not_suc k (only.place (suc k) q at e)))
removed_is n (suc p) (o ∷ os) only =
    ap (λ (qs : List Open). o ∷ qs) (removed_is n p os (record {
      id = λ q at. only.id q at;
      place = λ k q at e. less_one k p (only.place (suc k) q at e);
    }))
    ∙ sym (ap (λ x. if x then o ∷ filter (stays n) os else filter (stays n) os)
    (other_stays n o (λ e. zero_not_suc p (sym (only.place 0 o refl e)))))

filter_last : (test : Open → Bool) (os : List Open) (o : Open) → filter test (os ++ o ∷ []) ≡ filter test os ++ filter test (o ∷ [])
filter_last test [] o = refl
filter_last test (p ∷ os) o = by (test p) (filter_last test os o)
  where
    by : (x : Bool) → filter test (os ++ o ∷ []) ≡ filter test os ++ filter test (o ∷ []) →
        (if x then p ∷ filter test (os ++ o ∷ []) else filter test (os ++ o ∷ []))
        ≡ (if x then p ∷ filter test os else filter test os) ++ filter test (o ∷ [])
    by true e = ap (λ (ps : List Open). p ∷ ps) e
    by false e = e

filter_turned : (test : Open → Bool) (os : List Open) → reverse (filter test os) ≡ filter test (reverse os)
filter_turned test = by_ends (λ os. reverse (filter test os) ≡ filter test (reverse os)) refl (λ os o e.
    ap (λ (ps : List Open). reverse ps) (filter_last test os o) ∙ by os o (test o) e ∙ ap (filter test) (sym (reverse-append os (o ∷ []))))
  where
    by : (os : List Open) (o : Open) (x : Bool) → reverse (filter test os) ≡ filter test (reverse os) →
        reverse (filter test os ++ (if x then o ∷ [] else [])) ≡ (if x then o ∷ filter test (reverse os) else filter test (reverse os))
    by os o true e = reverse-append (filter test os) (o ∷ []) ∙ ap (λ (ps : List Open). o ∷ ps) e
    by os o false e = reverse-append (filter test os) [] ∙ e

filter_ids : (n : ℕ) (os : List Open) → without n (map (λ o. o.id) os) ≡ map (λ o. o.id) (filter (stays n) os)
filter_ids n [] = refl
filter_ids n (o ∷ os) = by (nat_eq o.id n) (filter_ids n os)
  where
    by : (x : Bool) → without n (map (λ o. o.id) os) ≡ map (λ o. o.id) (filter (stays n) os) →
        (if not x then o.id ∷ without n (map (λ o. o.id) os) else without n (map (λ o. o.id) os))
        ≡ map (λ o. o.id) (if not x then o ∷ filter (stays n) os else filter (stays n) os)
    by true e = e
    by false e = ap (λ (ns : List ℕ). o.id ∷ ns) e

filter_stands : (nodes : List Node) (test : Open → Bool) (os : List Open) → AllStand nodes os → AllStand nodes (filter test os)
filter_stands nodes test [] all = tt
filter_stands nodes test (o ∷ os) all = by (test o) (filter_stands nodes test os all.1)
  where
    by : (x : Bool) → AllStand nodes (filter test os) → AllStand nodes (if x then o ∷ filter test os else filter test os)
    by true rest = (all.0, rest)
    by false rest = rest

removed_stack : (t : GrowingTree) (n p : ℕ) (os : List Open) → IsOnly n p os → IsStackOf t os → IsStackOf (with_stack t (without n t.stack)) (remove os p)
removed_stack t n p os only is =
    let turned : reverse (remove os p) ≡ filter (stays n) (reverse os) = ap (λ (ps : List Open). reverse ps) (removed_is n p os only) ∙ filter_turned (stays n) os in
    record {
      ids = ap (without n) is.ids ∙ filter_ids n (reverse os) ∙ ap (λ (ps : List Open). map (λ o. o.id) ps) (sym turned);
      nodes = subst (AllStand t.nodes) (sym turned) (filter_stands t.nodes (stays n) (reverse os) is.nodes);
    }

-- ---- where the form stands

-- the last element that passes a test
record IsLastAt (test : Open → Bool) (os : List Open) (p : ℕ) : Type 0 where
  one : Open
  there : slice_get os p ≡ Some one
  passes : test one ≡ true

last_at : (test : Open → Bool) (p : ℕ) (os : List Open) → last_place test os ≡ p + 1 → IsLastAt test os p
last_at test p = by_ends (λ os. last_place test os ≡ p + 1 → IsLastAt test os p) (λ e. absurd (omega (arith, e)))
    (λ os o more e. by os o (test o) refl more (sym (last_place_push test os o) ∙ e))
  where
    by : (os : List Open) (o : Open) (x : Bool) → test o ≡ x → (last_place test os ≡ p + 1 → IsLastAt test os p) →
        (if x then length os + 1 else last_place test os) ≡ p + 1 → IsLastAt test (os ++ o ∷ []) p
    by os o true is more e =
        (let here : p ≡ length os = omega (arith, e) in
        record { one = o; there = ap (slice_get (os ++ o ∷ [])) here ∙ slice_get_end os o; passes = is })
    by os o false is more e =
        (let found = more e in
        record { one = found.one; there = slice_get_left os (o ∷ []) p (slice_get_within os p found.one found.there) ∙ found.there; passes = found.passes })

-- no other element has its id
only_one : (f : Forest) (os : List Open) (n p : ℕ) (one : Open) → IsInOrder f os → slice_get os p ≡ Some one → one.id ≡ n → IsOnly n p os
only_one f os n p one order there named = record {
  id = λ o at. (let same : Some o ≡ Some one = sym at ∙ there in
      let is : o ≡ one = cc in
      ap (λ (q : Open). q.id) is ∙ named);
  place = λ k o at e. by k o at e;
}
  where
    apart : (i j : ℕ) (a b : Open) → i < j → slice_get os i ≡ Some a → slice_get os j ≡ Some b → b.id ≡ a.id → ⊥
    apart i j a b lt at_a at_b e =
        let is_a : get_or os i a ≡ a = get_or_from_slice_get os i a a at_a in
        let is_b : get_or os j a ≡ b = get_or_from_slice_get os j b a at_b in
        order i j a lt (slice_get_within os j b at_b)
        (inl (ap (λ (q : Open). q.id) is_b ∙ e ∙ sym (ap (λ (q : Open). q.id) is_a)))

    by : (k : ℕ) (o : Open) → slice_get os k ≡ Some o → o.id ≡ n → k ≡ p
    by k o at e = elim (cases_lt k p) [
      | inl below ↦ absurd (apart k p o one below at there (named ∙ sym e))
      | inr high ↦ elim (cases_lt p k) [
        | inl above ↦ absurd (apart p k one o above there at (e ∙ sym named))
        | inr low ↦ omega (arith, high, low)
      ]
    ]

front_get : (m k : ℕ) (os : List Open) (o : Open) → slice_get (take m os) k ≡ Some o → slice_get os k ≡ Some o
front_get zero k os o at = cc
front_get (suc m) k [] o at = cc
front_get (suc m) zero (q ∷ os) o at = at
front_get (suc m) (suc k) (q ∷ os) o at = front_get m k os o at

only_front : (m n p : ℕ) (os : List Open) → IsOnly n p os → IsOnly n p (take m os)
only_front m n p os only = record {
  id = λ o at. only.id o (front_get m p os o at);
  place = λ k o at e. only.place k o (front_get m k os o at) e;
}

both_of : (a b : Bool) → (a && b) ≡ true → b ≡ true
both_of true true e = refl
both_of true false e = absurd (true≢false (sym e))
both_of false b e = absurd (true≢false (sym e))

-- ---- it is in scope

pub form_closed : (f : Forest) (view old cut new : TreeState) (t : GrowingTree) (n p m : ℕ) (x : Bool) → view ≡ old → IsInOrder f view.stack →
    Some p ≡ index_at (last_place (is_this Name.Form n) view.stack) → (x ≡ true → last_place ends_scope view.stack ≤ p + 1) → x ≡ true →
    ((u : GrowingTree) → IsStackOf u view.stack → IsStackOf (implied_of implied [] u) (take m view.stack)) →
    cut ≡ record old { stack = take m old.stack } → new ≡ record cut { stack = remove cut.stack p } → IsFormNode t n → Builds old t → Builds new (form_ended (FormAt n) t)
form_closed f view old cut new t n p m x same order some scope shows implies e e2 form b =
    let here : Builds view t = subst (λ (o : TreeState). Builds o t) (sym same) b in
    let place : last_place (is_this Name.Form n) view.stack ≡ p + 1 = index_some _ p some in
    let found = last_at (is_this Name.Form n) p view.stack place in
    let only : IsOnly n p view.stack = only_one f view.stack n p found.one order found.there (eqb-true found.one.id n (both_of (is_named Name.Form found.one) (eqb found.one.id n) found.passes)) in
    let within : in_scope (nat_eq n) (ends_scope_of DefaultScope t) t.stack ≡ true =
    sym (scope_is view t n here form) ∙ (scope_search (is_this Name.Form n) ends_scope view.stack).found (omega (arith, place)) (omega (arith, scope shows, place)) in
    let left : GrowingTree = implied_of implied [] t in
    let kept : IsStackOf (with_stack t (without n left.stack)) (remove (take m view.stack) p) = removed_stack left n p (take m view.stack) (only_front m n p view.stack only) (implies t here.stack) in
    let after : new ≡ record view { stack = remove (take m view.stack) p } =
    e2 ∙ ap (λ (s : TreeState). record s { stack = remove s.stack p }) (e ∙ ap (λ (s : TreeState). record s { stack = take m s.stack }) (sym same)) in
    subst (λ (s : TreeState). Builds s (form_ended (FormAt n) t)) (sym after)
    (subst (λ y. Builds (record view { stack = remove (take m view.stack) p }) (by_scope y n t)) (sym within)
    (built_on view t (remove (take m view.stack) p) (without n left.stack) here kept
    (removed_numbered view.numbers t.nodes (take m view.stack) p (front_numbered view.numbers t.nodes view.stack m here.numbered))))

-- ---- the pointer

built_without_form : (s : TreeState) (t : GrowingTree) → Builds s t → Builds (record s { form = FormPointer.None }) (record t { form = NoForm })
built_without_form s t b = record {
  nodes = b.nodes;
  stack = record { ids = b.stack.ids; nodes = b.stack.nodes };
  numbered = b.numbered;
  listed = b.listed;
  head = b.head;
  head_named = b.head_named;
  form = refl;
  form_named = tt;
  context = b.context;
  late = b.late;
  lone = b.lone;
}

abbrev ended_by : GrowingTree → StandardForm → GrowingTree
ended_by t form = form_ended form (record t { form = NoForm })

form_at : (s : TreeState) (t : GrowingTree) (pointer : FormPointer) → Builds s t → s.form ≡ pointer → t.form ≡ form_of pointer
form_at s t pointer b e = b.form ∙ ap form_of e

pub no_form_ended : (view old new : TreeState) (t : GrowingTree) → view ≡ old → new ≡ record view { form = FormPointer.None } → ((n : ℕ) → view.form ≡ FormPointer.Element n → ⊥) → Builds old t →
    Builds new (without_form t)
no_form_ended view old new t same e none b = by view.form refl
  where
    here : Builds view t
    here = subst (λ (o : TreeState). Builds o t) (sym same) b

    after : Builds new (record t { form = NoForm })
    after = subst (λ (s : TreeState). Builds s (record t { form = NoForm })) (sym e) (built_without_form view t here)

    by : (pointer : FormPointer) → view.form ≡ pointer → Builds new (without_form t)
    by FormPointer.None is = subst (λ form. Builds new (ended_by t form)) (sym (form_at view t FormPointer.None here is)) after
    by FormPointer.Context is = subst (λ form. Builds new (ended_by t form)) (sym (form_at view t FormPointer.Context here is)) after
    by (FormPointer.Element n) is = absurd (none n is)

pub form_ended_at : (view old mid new : TreeState) (t : GrowingTree) (n : ℕ) → view ≡ old → mid ≡ record view { form = FormPointer.None } → view.form ≡ FormPointer.Element n →
    ((u : GrowingTree) → IsFormNode u n → Builds mid u → Builds new (form_ended (FormAt n) u)) → Builds old t → Builds new (without_form t)
form_ended_at view old mid new t n same e is closes b =
    let here : Builds view t = subst (λ (o : TreeState). Builds o t) (sym same) b in
    let at : t.form ≡ FormAt n = form_at view t (FormPointer.Element n) here is in
    let named : IsFormNode t n = subst (IsFormNamed t.nodes) at here.form_named in
    subst (λ form. Builds new (ended_by t form)) (sym at)
    (closes (record t { form = NoForm }) named (subst (λ (s : TreeState). Builds s (record t { form = NoForm })) (sym e) (built_without_form view t here)))
