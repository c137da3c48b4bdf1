-- Walks below several nodes, with marks at the nodes that were met.
use Rattle.std.proofs.Common.{ℕ, ◌≡◌, ◌<◌, Bool, true, false, List, [], ◌∷◌, ◌++◌, Option, length, refl, sym, ap, ◌∙◌, subst, inl, inr, ◌⊎◌, get_or-set_same, get_or-set_other}
use Rattle.std.specs.Prelude.{◌==◌, ◌||◌, slice_set, slice_index_or, replicate, if◌then◌else◌}
use Rattle.std.specs.Borrow.{Bor}
use Rattle.std.specs.List.{flat_map}
use Rattle.std.proofs.lemmas.List.{get_or-replicate, length-replicate, length-set}
use Rattle.std.proofs.lemmas.Bool.{cases_Bool, eqb-true, eq-eqb, or_cases, or_left, or_right, true≢false}
use Rattle.dom_links.specs.Forest.{Forest}
use Rattle.dom_links.specs.Laws.{AreTrees}
use Rattle.dom_links.specs.Lists.{is_member}
use Rattle.dom_links.specs.Trees.{descendants_in_order}
use Rattle.dom_links.specs.Walk.{Walk}
use Rattle.dom_select.specs.Descendants.{IsMatch}
use Rattle.dom_select.specs.Marks.{first_unmarked, has_mark, left_in}
use Rattle.dom_select.specs.Selected.{FiltersTo, Selected, first_occurrences, walks_below}
use Rattle.dom_selectors.specs.Syntax.{SelectorList}

-- what a walk still gives, and then the walks below the roots that are left
abbrev pub still : Option Walk → Bor Forest → List ℕ → List ℕ
still walk tree roots = left_in walk ++ flat_map (descendants_in_order tree.now) roots

pub still_none : (walk : Option Walk) (tree : Bor Forest) (roots : List ℕ) → left_in walk ≡ [] → roots ≡ [] → still walk tree roots ≡ []
still_none walk tree roots e f = ap (λ ns. ns ++ flat_map (descendants_in_order tree.now) roots) e ∙ ap (flat_map (descendants_in_order tree.now)) f

pub next_root : (walk : Option Walk) (tree : Bor Forest) (roots rest new : List ℕ) (root : ℕ) → left_in walk ≡ [] → roots ≡ root ∷ rest → new ≡ descendants_in_order tree.now root →
    new ++ flat_map (descendants_in_order tree.now) rest ≡ still walk tree roots
next_root walk tree roots rest new root e f is =
    ap (λ ns. ns ++ flat_map (descendants_in_order tree.now) rest) is
    ∙ sym (ap (flat_map (descendants_in_order tree.now)) f)
    ∙ sym (ap (λ ns. ns ++ flat_map (descendants_in_order tree.now) roots) e)

-- a number without a mark is given, and is marked then

pub without_mark : (marks new : List Bool) (n : ℕ) (ns : List ℕ) → has_mark marks n ≡ false → new ≡ slice_set marks n true → first_unmarked marks (n ∷ ns) ≡ n ∷ first_unmarked new ns
without_mark marks new n ns h e =
    ap (λ (b : Bool). if b then first_unmarked marks ns else n ∷ first_unmarked (slice_set marks n true) ns) h ∙ ap (λ (ms : List Bool). n ∷ first_unmarked ms ns) (sym e)

pub with_mark : (marks new : List Bool) (n : ℕ) (ns : List ℕ) → has_mark marks n ≡ true → new ≡ marks → first_unmarked marks (n ∷ ns) ≡ first_unmarked new ns
with_mark marks new n ns h e =
    ap (λ (b : Bool). if b then first_unmarked marks ns else n ∷ first_unmarked (slice_set marks n true) ns) h ∙ ap (λ (ms : List Bool). first_unmarked ms ns) (sym e)

-- where the marks stand at the numbers met before, what has no mark is what stands there first

stands_here : (n : ℕ) (ns : List ℕ) → is_member n (n ∷ ns) ≡ true
stands_here n ns = or_left (n == n) (is_member n ns) (eq-eqb n n refl)

abbrev MarksAt : List Bool → List ℕ → Type 0
MarksAt marks before = (m : ℕ) → m < length marks → has_mark marks m ≡ is_member m before

marks_one_more : (marks : List Bool) (before : List ℕ) (n : ℕ) → n < length marks → MarksAt marks before → MarksAt (slice_set marks n true) (n ∷ before)
marks_one_more marks before n known same m low =
    elim (cases_Bool (n == m)) [
      | inl t ↦ let is = eqb-true n m t in
          ap (λ k. slice_index_or (slice_set marks n true) k false) (sym is) ∙ get_or-set_same marks n true false known ∙ sym (or_left (n == m) (is_member m before) t)
      | inr f ↦
          get_or-set_other marks n m true false (λ e. true≢false (sym (eq-eqb n m (sym e)) ∙ f))
          ∙ same m (subst (λ k. m < k) (length-set marks n true) low)
          ∙ sym (ap (λ (b : Bool). b || is_member m before) f)
    ]

unmarked_first : (ns : List ℕ) (marks : List Bool) (before : List ℕ) → MarksAt marks before → ((m : ℕ) → is_member m ns ≡ true → m < length marks) → first_unmarked marks ns ≡ first_occurrences before ns
unmarked_first [] marks before same inside = refl
unmarked_first (n ∷ ns) marks before same inside =
    let known = inside n (stands_here n ns) in
    let is = same n known in
    let later : (m : ℕ) → is_member m ns ≡ true → m < length marks = λ m s. inside m (or_right (n == m) (is_member m ns) s) in
    elim (cases_Bool (is_member n before)) [
      | inl t ↦
          ap (λ (b : Bool). if b then first_unmarked marks ns else n ∷ first_unmarked (slice_set marks n true) ns) (is ∙ t)
          ∙ unmarked_first ns marks before same later
          ∙ sym (ap (λ (b : Bool). if b then first_occurrences before ns else n ∷ first_occurrences (n ∷ before) ns) t)
      | inr f ↦
          ap (λ (b : Bool). if b then first_unmarked marks ns else n ∷ first_unmarked (slice_set marks n true) ns) (is ∙ f)
          ∙ ap (λ (ms : List ℕ). n ∷ ms) (unmarked_first ns (slice_set marks n true) (n ∷ before) (marks_one_more marks before n known same) (λ m s. subst (λ k. m < k) (sym (length-set marks n true)) (later m s)))
          ∙ sym (ap (λ (b : Bool). if b then first_occurrences before ns else n ∷ first_occurrences (n ∷ before) ns) f)
    ]

in_one : (m : ℕ) (a b : List ℕ) → is_member m (a ++ b) ≡ true → (is_member m a ≡ true) ⊎ (is_member m b ≡ true)
in_one m [] b h = inr h
in_one m (x ∷ xs) b h = elim (or_cases (x == m) (is_member m (xs ++ b)) h) [
  | inl t ↦ inl (or_left (x == m) (is_member m xs) t)
  | inr t ↦ elim (in_one m xs b t) [
    | inl u ↦ inl (or_right (x == m) (is_member m xs) u)
    | inr u ↦ inr u
  ]
]

walks_inside : (forest : Forest) (roots : List ℕ) → AreTrees forest → (m : ℕ) → is_member m (flat_map (descendants_in_order forest) roots) ≡ true → m < length forest.content
walks_inside forest [] trees m h = absurd (true≢false (sym h))
walks_inside forest (root ∷ roots) trees m h = elim (in_one m (descendants_in_order forest root) (flat_map (descendants_in_order forest) roots) h) [
  | inl t ↦ trees.walk_inside root m t
  | inr t ↦ walks_inside forest roots trees m t
]

pub walks_once : (forest : Forest) (roots : List ℕ) (marks : List Bool) → AreTrees forest → marks ≡ replicate (length forest.content) false →
    first_unmarked marks (flat_map (descendants_in_order forest) roots) ≡ walks_below forest roots
walks_once forest roots marks trees e =
    let none : List Bool = replicate (length forest.content) false in
    let long : length none ≡ length forest.content = length-replicate (length forest.content) false in
    ap (λ (ms : List Bool). first_unmarked ms (flat_map (descendants_in_order forest) roots)) e
    ∙ unmarked_first (flat_map (descendants_in_order forest) roots) none [] (λ m low. get_or-replicate (length forest.content) m false false (subst (λ k. m < k) long low)) (λ m s. subst (λ k. m < k) (sym long) (walks_inside forest roots trees m s))

pub selected_all : (forest : Forest) (roots : List ℕ) (selector : SelectorList) (left ids : List ℕ) → left ≡ walks_below forest roots → FiltersTo (IsMatch selector forest) left ids → Selected forest roots selector ids
unfolding Selected
selected_all forest roots selector left ids e h = subst (λ ns. FiltersTo (IsMatch selector forest) ns ids) e h
