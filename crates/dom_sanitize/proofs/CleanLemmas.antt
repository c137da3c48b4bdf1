-- What stands in a tree that was cleaned.
use Rattle.std.proofs.Common.{ℕ, ◌≡◌, Bool, true, false, List, [], ◌∷◌, ◌++◌, Option, Some, None, refl, sym, ap, ◌∙◌, subst, inl, inr}
use Rattle.std.specs.Prelude.{◌==◌, ◌||◌, ◌⊎◌, filter, slice_get}
use Rattle.std.specs.Option.{option_map, option_map_or}
use Rattle.std.proofs.lemmas.Bool.{cases_Bool, eqb-true, eq-eqb, true≢false, or_right, or_left}
use Rattle.dom_nodes.specs.declared.name.Attr.{Attr}
use Rattle.dom_nodes.specs.declared.node_data.NodeData.{NodeData}
use Rattle.dom_nodes.specs.declared.node_data.NodeData.TheVariants.{Document, Fragment, Doctype, Text, Comment, Element, ProcessingInstruction}
use Rattle.dom_nodes.specs.Changes.{is_named_in}
use Rattle.dom_links.specs.Forest.{Forest, children_of}
use Rattle.dom_links.specs.Laws.{AreTrees}
use Rattle.dom_links.specs.Lists.{is_member}
use Rattle.dom_links.specs.Sound.{IsForest}
use Rattle.dom_links.specs.Trees.{trees, walk, descendants_in_order}
use Rattle.dom_sanitize.specs.Clean.{Clean, nothing, stays, is_unwrapped, vanishes, Cleaned, IsLeft, Lists, fate_at, fate_of, kept}
use Rattle.dom_sanitize.specs.Laws.{AreAllowed, IsAllowed, NothingAppears}
use Rattle.dom_sanitize.specs.declared.plan.Fate.{Fate}
use Rattle.dom_sanitize.specs.declared.plan.Fate.TheVariants.{Stay, Unwrap, Vanish}
use Rattle.dom_links.proofs.forest.Neighbours.{is_member-append}
use Rattle.dom_sanitize.proofs.NumberLists.{in_back, in_front}
use Rattle.dom_sanitize.proofs.PlanLemmas.{AreInside, inside_rest}

-- the data of a node that stays
same_fate : (allow : Lists) (d : NodeData) → fate_of allow (kept allow d) ≡ fate_of allow d
same_fate allow Document = refl
same_fate allow Fragment = refl
same_fate allow (Doctype name public_id system_id) = refl
same_fate allow (Text contents) = refl
same_fate allow (Comment contents) = refl
same_fate allow (Element element) = refl
same_fate allow (ProcessingInstruction target contents) = refl

filter-twice : (p : Attr → Bool) (attrs : List Attr) → filter p (filter p attrs) ≡ filter p attrs
filter-twice p [] = refl
filter-twice p (a ∷ attrs) = elim (cases_Bool (p a)) [
  | inl t ↦ rw t (rw t (ap (λ bs. a ∷ bs) (filter-twice p attrs)))
  | inr f ↦ rw f (filter-twice p attrs)
]

kept-twice : (allow : Lists) (d : NodeData) → kept allow (kept allow d) ≡ kept allow d
kept-twice allow Document = refl
kept-twice allow Fragment = refl
kept-twice allow (Doctype name public_id system_id) = refl
kept-twice allow (Text contents) = refl
kept-twice allow (Comment contents) = refl
kept-twice allow (Element element) =
    let with_those : List Attr → NodeData = λ bs. Element (record element { attrs = bs }) in
    ap with_those (filter-twice (is_named_in allow.attrs) element.attrs)
kept-twice allow (ProcessingInstruction target contents) = refl

fate_kept : (allow : Lists) (o : Option NodeData) → option_map_or (fate_of allow) o Vanish ≡ Stay → option_map_or (fate_of allow) (option_map (kept allow) o) Vanish ≡ Stay
fate_kept allow None h = h
fate_kept allow (Some d) h = same_fate allow d ∙ h

map_kept : (allow : Lists) (o : Option NodeData) → option_map (kept allow) (option_map (kept allow) o) ≡ option_map (kept allow) o
map_kept allow None = refl
map_kept allow (Some d) = ap Some (kept-twice allow d)

left_allowed : (allow : Lists) (old new : Forest) (n : ℕ) → fate_at allow old n ≡ Stay → slice_get new.content n ≡ option_map (kept allow) (slice_get old.content n) → IsAllowed allow new n
left_allowed allow old new n fate content = record {
  stays = ap (λ o. option_map_or (fate_of allow) o Vanish) content ∙ fate_kept allow (slice_get old.content n) fate;
  attrs = ap (option_map (kept allow)) content ∙ map_kept allow (slice_get old.content n) ∙ sym content;
}

-- the walk of trees side by side
append-numbers : (xs ys zs : List ℕ) → (xs ++ ys) ++ zs ≡ xs ++ (ys ++ zs)
append-numbers [] ys zs = refl
append-numbers (x ∷ xs) ys zs = ap (λ ns. x ∷ ns) (append-numbers xs ys zs)

in_parts : (xs ys : List ℕ) (n : ℕ) → is_member n (xs ++ ys) ≡ true → (is_member n xs ≡ true) ⊎ (is_member n ys ≡ true)
in_parts xs ys n s = elim (cases_Bool (is_member n xs)) [
  | inl t ↦ inl t
  | inr f ↦ inr (second (is_member n xs) (is_member n ys) f (sym (is_member-append xs ys n) ∙ s))
]
  where
    second : (a b : Bool) → a ≡ false → (a || b) ≡ true → b ≡ true
    second true b f h = absurd (true≢false f)
    second false b f h = h

pub inside_front : (forest : Forest) (xs ys : List ℕ) → AreInside forest (xs ++ ys) → AreInside forest xs
inside_front forest xs ys known = λ m s. known m (in_front xs ys m s)

pub inside_back : (forest : Forest) (xs ys : List ℕ) → AreInside forest (xs ++ ys) → AreInside forest ys
inside_back forest xs ys known = λ m s. known m (in_back xs ys m s)

module _ (forest : Forest) (are : AreTrees forest) where
  pub walk-none : walk (trees forest []) ≡ []
  walk-none = ap walk are.no_trees

  pub walk-cons : (x : ℕ) (xs : List ℕ) → AreInside forest (x ∷ xs) → walk (trees forest (x ∷ xs)) ≡ x ∷ (descendants_in_order forest x ++ walk (trees forest xs))
  walk-cons x xs known = ap walk (are.a_tree x xs known)

  pub walk-append : (xs ys : List ℕ) → AreInside forest (xs ++ ys) → walk (trees forest (xs ++ ys)) ≡ walk (trees forest xs) ++ walk (trees forest ys)
  walk-append [] ys known = ap (λ ns. ns ++ walk (trees forest ys)) (sym walk-none)
  walk-append (x ∷ xs) ys known =
      walk-cons x (xs ++ ys) known ∙ ap (λ ns. x ∷ (descendants_in_order forest x ++ ns)) (walk-append xs ys (inside_rest forest x (xs ++ ys) known))
      ∙ ap (λ ns. x ∷ ns) (sym (append-numbers (descendants_in_order forest x) (walk (trees forest xs)) (walk (trees forest ys))))
      ∙ ap (λ ns. ns ++ walk (trees forest ys)) (sym (walk-cons x xs (inside_front forest (x ∷ xs) ys known)))

  -- a node of the walk is the first one, below it, or in the rest
  pub walk-cases : (x n : ℕ) (xs : List ℕ) → AreInside forest (x ∷ xs) → is_member n (walk (trees forest (x ∷ xs))) ≡ true → (x ≡ n) ⊎ ((is_member n (descendants_in_order forest x) ≡ true) ⊎ (is_member n (walk (trees forest xs)) ≡ true))
  walk-cases x n xs known s =
      let t : is_member n (x ∷ (descendants_in_order forest x ++ walk (trees forest xs))) ≡ true = ap (is_member n) (sym (walk-cons x xs known)) ∙ s in
      elim (cases_Bool (x == n)) [
        | inl e ↦ inl (eqb-true x n e)
        | inr f ↦ inr (in_parts (descendants_in_order forest x) (walk (trees forest xs)) n (rw f at t))
      ]

  pub walk-parts : (xs ys : List ℕ) (n : ℕ) → AreInside forest (xs ++ ys) → is_member n (walk (trees forest (xs ++ ys))) ≡ true → (is_member n (walk (trees forest xs)) ≡ true) ⊎ (is_member n (walk (trees forest ys)) ≡ true)
  walk-parts xs ys n known s = in_parts (walk (trees forest xs)) (walk (trees forest ys)) n (ap (is_member n) (sym (walk-append xs ys known)) ∙ s)

  pub walk-nothing : (n : ℕ) → is_member n (walk (trees forest [])) ≡ true → ⊥
  walk-nothing n s = true≢false (sym s ∙ ap (is_member n) walk-none)

  pub walk-first : (x n : ℕ) (xs : List ℕ) → AreInside forest (x ∷ xs) → x ≡ n → is_member n (walk (trees forest (x ∷ xs))) ≡ true
  walk-first x n xs known e = ap (is_member n) (walk-cons x xs known) ∙ or_left (x == n) _ (eq-eqb x n e)

  pub walk-under : (x n : ℕ) (xs : List ℕ) → AreInside forest (x ∷ xs) → is_member n (descendants_in_order forest x) ≡ true → is_member n (walk (trees forest (x ∷ xs))) ≡ true
  walk-under x n xs known s = ap (is_member n) (walk-cons x xs known) ∙ or_right (x == n) _ (in_front (descendants_in_order forest x) (walk (trees forest xs)) n s)

  pub walk-later : (x n : ℕ) (xs : List ℕ) → AreInside forest (x ∷ xs) → is_member n (walk (trees forest xs)) ≡ true → is_member n (walk (trees forest (x ∷ xs))) ≡ true
  walk-later x n xs known s = ap (is_member n) (walk-cons x xs known) ∙ or_right (x == n) _ (in_back (descendants_in_order forest x) (walk (trees forest xs)) n s)

pub children_inside : (forest : Forest) → IsForest forest → (n : ℕ) → AreInside forest (children_of forest n)
children_inside forest good n = λ m s. (good.once.in_children n m s).0

module _ (allow : Lists) (old new : Forest) (good : IsForest new) (are : AreTrees new) where
  allowed_in : (ns ms : List ℕ) → Clean allow old new ns ms → AreInside new ms → (i : ℕ) → is_member i (walk (trees new ms)) ≡ true → IsAllowed allow new i
  allowed_in _ _ nothing known i s = absurd (walk-nothing new are i s)
  allowed_in _ _ (stays n ns ms fate content inner later) known i s = elim (walk-cases new are n i ms known s) [
    | inl e ↦ subst (IsAllowed allow new) e (left_allowed allow old new n fate content)
    | inr r ↦ elim r [
      | inl below ↦ allowed_in (children_of old n) (children_of new n) inner (children_inside new good n) i below
      | inr rest ↦ allowed_in ns ms later (inside_rest new n ms known) i rest
    ]
  ]
  allowed_in _ _ (is_unwrapped n ns ks ms fate same none inner later) known i s = elim (walk-parts new are ks ms i known s) [
    | inl below ↦ allowed_in (children_of old n) ks inner (inside_front new ks ms known) i below
    | inr rest ↦ allowed_in ns ms later (inside_back new ks ms known) i rest
  ]
  allowed_in _ _ (vanishes n ns ms fate left later) known i s = allowed_in ns ms later known i s

  pub are_allowed : Cleaned allow old new → AreAllowed allow new
  are_allowed cleaned = λ n s. allowed_in (children_of old 0) (children_of new 0) cleaned.below (children_inside new good 0) n s

module _ (allow : Lists) (old new : Forest) (was : IsForest old) (were : AreTrees old) (good : IsForest new) (are : AreTrees new) where
  was_in : (ns ms : List ℕ) → Clean allow old new ns ms → AreInside old ns → AreInside new ms → (i : ℕ) → is_member i (walk (trees new ms)) ≡ true → is_member i (walk (trees old ns)) ≡ true
  was_in _ _ nothing there known i s = absurd (walk-nothing new are i s)
  was_in _ _ (stays n ns ms fate content inner later) there known i s = elim (walk-cases new are n i ms known s) [
    | inl e ↦ walk-first old were n i ns there e
    | inr r ↦ elim r [
      | inl below ↦ walk-under old were n i ns there (was_in (children_of old n) (children_of new n) inner (children_inside old was n) (children_inside new good n) i below)
      | inr rest ↦ walk-later old were n i ns there (was_in ns ms later (inside_rest old n ns there) (inside_rest new n ms known) i rest)
    ]
  ]
  was_in _ _ (is_unwrapped n ns ks ms fate same none inner later) there known i s = elim (walk-parts new are ks ms i known s) [
    | inl below ↦ walk-under old were n i ns there (was_in (children_of old n) ks inner (children_inside old was n) (inside_front new ks ms known) i below)
    | inr rest ↦ walk-later old were n i ns there (was_in ns ms later (inside_rest old n ns there) (inside_back new ks ms known) i rest)
  ]
  was_in _ _ (vanishes n ns ms fate left later) there known i s = walk-later old were n i ns there (was_in ns ms later (inside_rest old n ns there) known i s)

  pub nothing_appears : Cleaned allow old new → NothingAppears old new
  nothing_appears cleaned = λ n s. was_in (children_of old 0) (children_of new 0) cleaned.below (children_inside old was 0) (children_inside new good 0) n s

-- what was cleaned, cleaned again
module _ (allow : Lists) (new again : Forest) (good : IsForest new) (are : AreTrees new) where
  record Same (ns ms : List ℕ) : Type 0 where
    list : ms ≡ ns
    nodes : (i : ℕ) → is_member i (walk (trees new ns)) ≡ true → IsLeft new again i

  abbrev Allowed : List ℕ → Type 0
  Allowed ns = (i : ℕ) → is_member i (walk (trees new ns)) ≡ true → IsAllowed allow new i

  no_other : (n : ℕ) (ns : List ℕ) → AreInside new (n ∷ ns) → Allowed (n ∷ ns) → (f : Fate) → (f ≡ Stay → ⊥) → fate_at allow new n ≡ f → ⊥
  no_other n ns known all f off fate = off (sym fate ∙ (all n (walk-first new are n n ns known refl)).stays)

  same_again : (ns ms : List ℕ) → Clean allow new again ns ms → AreInside new ns → Allowed ns → Same ns ms
  same_again _ _ nothing known all = record { list = refl; nodes = λ i s. absurd (walk-nothing new are i s) }
  same_again _ _ (stays n ns ms fate content inner later) known all =
      let under = same_again (children_of new n) (children_of again n) inner (children_inside new good n) (λ i s. all i (walk-under new are n i ns known s)) in
      let rest = same_again ns ms later (inside_rest new n ns known) (λ i s. all i (walk-later new are n i ns known s)) in
      let here : IsLeft new again n = record { content = content ∙ (all n (walk-first new are n n ns known refl)).attrs; children = under.list } in
      record {
        list = ap (λ is. n ∷ is) rest.list;
        nodes = λ i s. elim (walk-cases new are n i ns known s) [
          | inl e ↦ subst (IsLeft new again) e here
          | inr r ↦ elim r [ inl below ↦ under.nodes i below | inr after ↦ rest.nodes i after ]
        ];
      }
  same_again _ _ (is_unwrapped n ns ks ms fate same none inner later) known all = absurd (no_other n ns known all Unwrap (λ e. cc) fate)
  same_again _ _ (vanishes n ns ms fate left later) known all = absurd (no_other n ns known all Vanish (λ e. cc) fate)

  pub same_everywhere : AreAllowed allow new → Cleaned allow new again → (n : ℕ) → IsLeft new again n
  same_everywhere all cleaned n =
      let same = same_again (children_of new 0) (children_of again 0) cleaned.below (children_inside new good 0) all in
      elim (cases_Bool (n == 0)) [
        | inl t ↦ subst (IsLeft new again) (sym (eqb-true n 0 t)) (record { content = cleaned.root; children = same.list })
        | inr f ↦ elim (cases_Bool (is_member n (descendants_in_order new 0))) [
          | inl s ↦ same.nodes n s
          | inr out ↦ cleaned.elsewhere n (λ e. true≢false (sym (eq-eqb n 0 e) ∙ f)) out
        ]
      ]
