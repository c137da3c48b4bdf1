-- What holds of each step of a plan.
use Rattle.std.proofs.Common.{ℕ, ◌≡◌, true, false, List, [], ◌∷◌, ◌++◌, Some, refl, sym, ap, ◌∙◌, subst, inl, inr}
use Rattle.std.specs.Prelude.{◌==◌, ◌||◌}
use Rattle.std.proofs.lemmas.Bool.{cases_Bool, eqb-true, eq-eqb, or_parts, true≢false, or_right, or_left}
use Rattle.dom_links.specs.Forest.{Forest, children_of}
use Rattle.dom_links.specs.Laws.{AreTrees}
use Rattle.dom_links.specs.Lists.{is_member, IsDistinct}
use Rattle.dom_links.specs.Sound.{IsForest, children_allowed_at}
use Rattle.dom_links.specs.Trees.{Trees, NoTrees, Tree, trees, walk}
use Rattle.dom_sanitize.specs.Clean.{Lists, fate_at}
use Rattle.dom_sanitize.specs.Plan.{EachStep, home_of, ids, planned, steps_under}
use Rattle.dom_sanitize.specs.declared.plan.Fate.{Fate}
use Rattle.dom_sanitize.specs.declared.plan.Fate.TheVariants.{Stay, Unwrap, Vanish}
use Rattle.dom_sanitize.specs.declared.plan.Step.{Step}
use Rattle.dom_links.proofs.forest.Neighbours.{distinct_parts, distinct-append}
use Rattle.dom_sanitize.proofs.NumberLists.{in_back, in_front, out_of_both, out_parts}
use Rattle.dom_sanitize.proofs.PlanLemmas.{AreInside, ids-append, inside_rest, no_trees, parts}

pub each-append : (P : Step → Type 0) (ss ts : List Step) → EachStep P ss → EachStep P ts → EachStep P (ss ++ ts)
each-append P [] ts one two = two
each-append P (s ∷ ss) ts one two = (one.0, each-append P ss ts one.1 two)

pub each-more : (P Q : Step → Type 0) (ss : List Step) → ((s : Step) → P s → Q s) → EachStep P ss → EachStep Q ss
each-more P Q [] more each = tt
each-more P Q (s ∷ ss) more each = (more s each.0, each-more P Q ss more each.1)

each-under : (P : Step → Type 0) (f : Fate) (ss ts : List Step) → (f ≡ Stay → EachStep P ss) → (f ≡ Unwrap → EachStep P ts) → EachStep P (steps_under f ss ts)
each-under P Stay ss ts one two = one refl
each-under P Unwrap ss ts one two = two refl
each-under P Vanish ss ts one two = tt

pub each-in : (ss : List Step) → EachStep (λ s. is_member s.id (ids ss) ≡ true) ss
each-in [] = tt
each-in (s ∷ ss) = (
  or_left (s.id == s.id) _ (eq-eqb s.id s.id refl),
  each-more (λ t. is_member t.id (ids ss) ≡ true) (λ t. is_member t.id (ids (s ∷ ss)) ≡ true) ss (λ t h. or_right (s.id == t.id) _ h) (each-in ss),
)

not_under : (f : Fate) (ss ts : List Step) (n : ℕ) → is_member n (ids ss) ≡ false → is_member n (ids ts) ≡ false → is_member n (ids (steps_under f ss ts)) ≡ false
not_under Stay ss ts n one two = one
not_under Unwrap ss ts n one two = two
not_under Vanish ss ts n one two = refl

-- a node that isn't in the walk has no step
pub not_planned : (allow : Lists) (forest : Forest) (t : Trees) (h n : ℕ) → is_member n (walk t) ≡ false → is_member n (ids (planned allow forest h t)) ≡ false
not_planned allow forest NoTrees h n out = refl
not_planned allow forest (Tree i c k l) h n out =
    let two = or_parts (i == n) (is_member n (walk k ++ walk l)) out in
    let halves = out_parts (walk k) (walk l) n two.1 in
    let under = steps_under (fate_at allow forest i) (planned allow forest i k) (planned allow forest h k) in
    rw two.0 (ap (is_member n) (ids-append under (planned allow forest h l))
    ∙ out_of_both (ids under) _ n (not_under (fate_at allow forest i) _ _ n (not_planned allow forest k i n halves.0) (not_planned allow forest k h n halves.0)) (not_planned allow forest l h n halves.1))

pub step_walked : (allow : Lists) (forest : Forest) (t : Trees) (h n : ℕ) → is_member n (ids (planned allow forest h t)) ≡ true → is_member n (walk t) ≡ true
step_walked allow forest t h n s = elim (cases_Bool (is_member n (walk t))) [
  | inl w ↦ w
  | inr f ↦ absurd (true≢false (sym s ∙ not_planned allow forest t h n f))
]

-- no node has two steps
pub planned_once : (allow : Lists) (forest : Forest) (t : Trees) (h : ℕ) → IsDistinct (walk t) → IsDistinct (ids (planned allow forest h t))
planned_once allow forest NoTrees h once = tt
planned_once allow forest (Tree r c k l) h once =
    let halves = distinct_parts (walk k) (walk l) once.1 in
    let out = out_parts (walk k) (walk l) r once.0 in
    let f = fate_at allow forest r in
    let under = steps_under f (planned allow forest r k) (planned allow forest h k) in
    let join = ids-append under (planned allow forest h l) in (
      ap (is_member r) join ∙ out_of_both (ids under) _ r (not_under f _ _ r (not_planned allow forest k r r out.0) (not_planned allow forest k h r out.0)) (not_planned allow forest l h r out.1),
      subst IsDistinct (sym join) (distinct-append (ids under) (ids (planned allow forest h l)) (once_under f _ _ (planned_once allow forest k r halves.0) (planned_once allow forest k h halves.0)) (planned_once allow forest l h halves.1)
          (λ n s. not_planned allow forest l h n (halves.2 n (under_walked f n s)))),
    )
  where
    once_under : (f : Fate) (ss ts : List Step) → IsDistinct (ids ss) → IsDistinct (ids ts) → IsDistinct (ids (steps_under f ss ts))
    once_under Stay ss ts one two = one
    once_under Unwrap ss ts one two = two
    once_under Vanish ss ts one two = tt

    under_walked : (f : Fate) (n : ℕ) → is_member n (ids (steps_under f (planned allow forest r k) (planned allow forest h k))) ≡ true → is_member n (walk k) ≡ true
    under_walked Stay n s = step_walked allow forest k r n s
    under_walked Unwrap n s = step_walked allow forest k h n s
    under_walked Vanish n s = absurd (true≢false (sym s))

-- the home of a step, if it has one, is h or one of the nodes
abbrev pub HomeIn : ℕ → List ℕ → Step → Type 0
HomeIn h ns s = (p : ℕ) → s.home ≡ Some p → ((h == p) || is_member p ns) ≡ true

home_widens : (h i : ℕ) (ms ns : List ℕ) (s : Step) → ((h == i) || is_member i ns) ≡ true → ((n : ℕ) → is_member n ms ≡ true → is_member n ns ≡ true) → HomeIn i ms s → HomeIn h ns s
home_widens h i ms ns s start more home p e = elim (cases_Bool (i == p)) [
  | inl t ↦ subst (λ (j : ℕ). ((h == j) || is_member j ns) ≡ true) (eqb-true i p t) start
  | inr f ↦ or_right (h == p) _ (more p (rw f at (home p e)))
]

pub homes_planned : (allow : Lists) (forest : Forest) (t : Trees) (h : ℕ) → EachStep (HomeIn h (ids (planned allow forest h t))) (planned allow forest h t)
homes_planned allow forest NoTrees h = tt
homes_planned allow forest (Tree r c k l) h =
    let f = fate_at allow forest r in
    let under = steps_under f (planned allow forest r k) (planned allow forest h k) in
    let later = planned allow forest h l in
    let all = ids (planned allow forest h (Tree r c k l)) in
    let front : (n : ℕ) → is_member n (ids under) ≡ true → is_member n all ≡ true = λ n s. or_right (r == n) _ (ap (is_member n) (ids-append under later) ∙ in_front (ids under) (ids later) n s) in
    let back : (n : ℕ) → is_member n (ids later) ≡ true → is_member n all ≡ true = λ n s. or_right (r == n) _ (ap (is_member n) (ids-append under later) ∙ in_back (ids under) (ids later) n s) in
    let at_r : ((h == r) || is_member r all) ≡ true = or_right (h == r) _ (or_left (r == r) _ (eq-eqb r r refl)) in
    let at_h : ((h == h) || is_member h all) ≡ true = or_left (h == h) _ (eq-eqb h h refl) in (
      here f h all,
      each-append (HomeIn h all) under later
          (each-under (HomeIn h all) f (planned allow forest r k) (planned allow forest h k)
          (λ is. each-more (HomeIn r (ids (planned allow forest r k))) (HomeIn h all) (planned allow forest r k) (λ s home. home_widens h r (ids (planned allow forest r k)) all s at_r (λ n i. front n (ap (λ (g : Fate). is_member n (ids (steps_under g (planned allow forest r k) (planned allow forest h k)))) is ∙ i)) home) (homes_planned allow forest k r))
          (λ is. each-more (HomeIn h (ids (planned allow forest h k))) (HomeIn h all) (planned allow forest h k) (λ s home. home_widens h h (ids (planned allow forest h k)) all s at_h (λ n i. front n (ap (λ (g : Fate). is_member n (ids (steps_under g (planned allow forest r k) (planned allow forest h k)))) is ∙ i)) home) (homes_planned allow forest k h)))
          (each-more (HomeIn h (ids later)) (HomeIn h all) later (λ s home. home_widens h h (ids later) all s at_h back home) (homes_planned allow forest l h)),
    )
  where
    here : (f : Fate) (h : ℕ) (all : List ℕ) (p : ℕ) → home_of f h ≡ Some p → ((h == p) || is_member p all) ≡ true
    here Stay h all p e = (let same : h ≡ p = cc in or_left (h == p) _ (eq-eqb h p same))
    here Unwrap h all p e = absurd (let no = e in cc)
    here Vanish h all p e = absurd (let no = e in cc)

-- the home of a step, if it has one, children_allowed_at children
abbrev pub HomeBears : Forest → Step → Type 0
HomeBears forest s = (p : ℕ) → s.home ≡ Some p → children_allowed_at forest p ≡ true

pub homes_bear : (allow : Lists) (forest : Forest) (t : Trees) (ns : List ℕ) (h : ℕ) → IsForest forest → AreTrees forest → AreInside forest ns → t ≡ trees forest ns → ((n : ℕ) → is_member n ns ≡ true → children_allowed_at forest h ≡ true) → EachStep (HomeBears forest) (planned allow forest h t)
homes_bear allow forest NoTrees ns h good are known e bearing = tt
homes_bear allow forest (Tree r c k l) [] h good are known e bearing = absurd (no_trees forest r c k l are e)
homes_bear allow forest (Tree r c k l) (n ∷ ns) h good are known e bearing =
    let p = parts forest n ns r c k l are known e in
    let f = fate_at allow forest r in
    let holds : children_allowed_at forest h ≡ true = bearing n (or_left (n == n) _ (eq-eqb n n refl)) in
    let inside : AreInside forest (children_of forest n) = λ j u. (good.once.in_children n j u).0 in (
      here f h holds,
      each-append (HomeBears forest) (steps_under f (planned allow forest r k) (planned allow forest h k)) (planned allow forest h l)
          (each-under (HomeBears forest) f (planned allow forest r k) (planned allow forest h k)
          (λ is. homes_bear allow forest k (children_of forest n) r good are inside p.children (λ j u. good.parents_allow r j ((good.once.in_children n j u).1 ∙ ap Some (sym p.root))))
          (λ is. homes_bear allow forest k (children_of forest n) h good are inside p.children (λ j u. holds)))
          (homes_bear allow forest l ns h good are (inside_rest forest n ns known) p.later (λ j u. holds)),
    )
  where
    here : (f : Fate) (h : ℕ) → children_allowed_at forest h ≡ true → (p : ℕ) → home_of f h ≡ Some p → children_allowed_at forest p ≡ true
    here Stay h holds p e = (let same : h ≡ p = cc in subst (λ (i : ℕ). children_allowed_at forest i ≡ true) same holds)
    here Unwrap h holds p e = absurd (let no = e in cc)
    here Vanish h holds p e = absurd (let no = e in cc)

-- no node is put below one that is still to be put: a home has its step before
abbrev pub NotAmong : List ℕ → Step → Type 0
NotAmong ns s = (p : ℕ) → s.home ≡ Some p → is_member p ns ≡ false

abbrev pub HomesBefore : List Step → Type 0
HomesBefore [] = Unit {0}
HomesBefore (s ∷ ss) = NotAmong (ids (s ∷ ss)) s × HomesBefore ss

before-append : (ss ts : List Step) → HomesBefore ss → HomesBefore ts → EachStep (NotAmong (ids ts)) ss → HomesBefore (ss ++ ts)
before-append [] ts one two apart = two
before-append (s ∷ ss) ts one two apart = (
  λ p e. (ap (is_member p) (ap (λ ns. s.id ∷ ns) (ids-append ss ts)) ∙ out_of_both (s.id ∷ ids ss) (ids ts) p (one.0 p e) (apart.0 p e)),
  before-append ss ts one.1 two apart.1,
)

pub homes_before : (allow : Lists) (forest : Forest) (t : Trees) (h : ℕ) → IsDistinct (walk t) → is_member h (walk t) ≡ false → HomesBefore (planned allow forest h t)
homes_before allow forest NoTrees h once out = tt
homes_before allow forest (Tree r c k l) h once out =
    let f = fate_at allow forest r in
    let halves = distinct_parts (walk k) (walk l) once.1 in
    let out_r = out_parts (walk k) (walk l) r once.0 in
    let two = or_parts (r == h) (is_member h (walk k ++ walk l)) out in
    let out_h = out_parts (walk k) (walk l) h two.1 in
    let later = planned allow forest h l in (
      here f h (ids (planned allow forest h (Tree r c k l))) (not_planned allow forest (Tree r c k l) h h out),
      before-append (steps_under f (planned allow forest r k) (planned allow forest h k)) later
          (before_under f (homes_before allow forest k r halves.0 out_r.0) (homes_before allow forest k h halves.0 out_h.0))
          (homes_before allow forest l h halves.1 out_h.1)
          (each-under (NotAmong (ids later)) f (planned allow forest r k) (planned allow forest h k)
          (λ is. each-more (HomeIn r (ids (planned allow forest r k))) (NotAmong (ids later)) (planned allow forest r k) (λ s home p e. off r r later (λ n w. not_planned allow forest l h n w) out_r.1 halves.2 p (home p e)) (homes_planned allow forest k r))
          (λ is. each-more (HomeIn h (ids (planned allow forest h k))) (NotAmong (ids later)) (planned allow forest h k) (λ s home p e. off h h later (λ n w. not_planned allow forest l h n w) out_h.1 halves.2 p (home p e)) (homes_planned allow forest k h))),
    )
  where
    here : (f : Fate) (h : ℕ) (ns : List ℕ) → is_member h ns ≡ false → (p : ℕ) → home_of f h ≡ Some p → is_member p ns ≡ false
    here Stay h ns out p e = (let same : h ≡ p = cc in subst (λ (i : ℕ). is_member i ns ≡ false) same out)
    here Unwrap h ns out p e = absurd (let no = e in cc)
    here Vanish h ns out p e = absurd (let no = e in cc)

    before_under : (f : Fate) → HomesBefore (planned allow forest r k) → HomesBefore (planned allow forest h k) → HomesBefore (steps_under f (planned allow forest r k) (planned allow forest h k))
    before_under Stay one two = one
    before_under Unwrap one two = two
    before_under Vanish one two = tt

    -- who is i, or has a step below it, has none among the later trees
    off : (i j : ℕ) (later : List Step) → ((n : ℕ) → is_member n (walk l) ≡ false → is_member n (ids later) ≡ false) → is_member i (walk l) ≡ false → ((n : ℕ) → is_member n (walk k) ≡ true → is_member n (walk l) ≡ false) → (p : ℕ) → ((i == p) || is_member p (ids (planned allow forest j k))) ≡ true → is_member p (ids later) ≡ false
    off i j later none out_i apart p home = elim (cases_Bool (i == p)) [
      | inl t ↦ none p (subst (λ (m : ℕ). is_member m (walk l) ≡ false) (eqb-true i p t) out_i)
      | inr f ↦ none p (apart p (step_walked allow forest k j p (rw f at home)))
    ]
