-- A forest has one clean at most.
use Rattle.std.proofs.Common.{ℕ, suc, ◌≡◌, true, List, [], ◌∷◌, ◌++◌, Option, Some, None, refl, sym, ap, ◌∙◌, subst, inl, inr, length, arith}
use Rattle.std.specs.Prelude.{◌==◌, slice_get, slice_index_or}
use Rattle.std.specs.Option.{option_map}
use Rattle.std.proofs.lemmas.Bool.{cases_Bool, eqb-true, eq-eqb, true≢false, or_right, or_left}
use Rattle.std.proofs.lemmas.Option.{same_Some}
use Rattle.dom_nodes.specs.declared.node_data.NodeData.{NodeData}
use Rattle.dom_links.specs.Forest.{Forest, children_of, owner_from, parent, run_of}
use Rattle.dom_links.specs.Laws.{AreLines, AreTrees}
use Rattle.dom_links.specs.Lists.{is_member}
use Rattle.dom_links.specs.Sound.{IsForest}
use Rattle.dom_links.specs.Trees.{trees, walk, descendants_in_order}
use Rattle.dom_sanitize.specs.Clean.{Clean, nothing, stays, is_unwrapped, vanishes, Cleaned, IsLeft, Lists, fate_at, kept}
use Rattle.dom_sanitize.specs.Laws.{StaysClean}
use Rattle.dom_sanitize.specs.declared.plan.Fate.{Fate}
use Rattle.dom_sanitize.specs.declared.plan.Fate.TheVariants.{Stay, Unwrap, Vanish}
use Rattle.dom_sanitize.proofs.CleanLemmas.{are_allowed, children_inside, same_everywhere, walk-cases, walk-nothing}
use Rattle.dom_sanitize.proofs.PlanLemmas.{AreInside, inside_rest}

-- what a clean says of the first of the nodes side by side, by what becomes of it
pub record Staying (allow : Lists) (old new : Forest) (n : ℕ) (ns ms : List ℕ) : Type 0 where
  pub rest : List ℕ
  pub list : ms ≡ n ∷ rest
  pub content : slice_get new.content n ≡ option_map (kept allow) (slice_get old.content n)
  pub inner : Clean allow old new (children_of old n) (children_of new n)
  pub later : Clean allow old new ns rest

pub record Unwrapped (allow : Lists) (old new : Forest) (n : ℕ) (ns ms : List ℕ) : Type 0 where
  pub under : List ℕ
  pub rest : List ℕ
  pub list : ms ≡ under ++ rest
  pub content : slice_get new.content n ≡ slice_get old.content n
  pub none : children_of new n ≡ []
  pub inner : Clean allow old new (children_of old n) under
  pub later : Clean allow old new ns rest

pub record Vanished (allow : Lists) (old new : Forest) (n : ℕ) (ns ms : List ℕ) : Type 0 where
  pub left : (m : ℕ) → is_member m (n ∷ descendants_in_order old n) ≡ true → IsLeft old new m
  pub later : Clean allow old new ns ms

abbrev pub First : Lists → (old new : Forest) → Fate → ℕ → (ns ms : List ℕ) → Type 0
First allow old new Stay n ns ms = Staying allow old new n ns ms
First allow old new Unwrap n ns ms = Unwrapped allow old new n ns ms
First allow old new Vanish n ns ms = Vanished allow old new n ns ms

module _ (allow : Lists) (old new : Forest) where
  moved : (m n : ℕ) (xs ns ms : List ℕ) → m ≡ n → xs ≡ ns → First allow old new (fate_at allow old m) m xs ms → First allow old new (fate_at allow old n) n ns ms
  moved m n xs ns ms head tail first =
      subst (λ (k : ℕ). First allow old new (fate_at allow old k) k ns ms) head (subst (λ (ys : List ℕ). First allow old new (fate_at allow old m) m ys ms) tail first)

  by_fate : (f : Fate) (n : ℕ) (ns ms : List ℕ) → fate_at allow old n ≡ f → First allow old new f n ns ms → First allow old new (fate_at allow old n) n ns ms
  by_fate f n ns ms fate first = subst (λ g. First allow old new g n ns ms) (sym fate) first

  pub first_of : (xs ms : List ℕ) → Clean allow old new xs ms → (n : ℕ) (ns : List ℕ) → xs ≡ n ∷ ns → First allow old new (fate_at allow old n) n ns ms
  first_of _ _ nothing n ns e = absurd (let bad : [] ≡ n ∷ ns = e in cc)
  first_of _ _ (stays m xs ms fate content inner later) n ns e =
      let is : m ∷ xs ≡ n ∷ ns = e in
      let head : m ≡ n = cc in
      let tail : xs ≡ ns = cc in
      let here : Staying allow old new m xs (m ∷ ms) = record { rest = ms; list = refl; content = content; inner = inner; later = later } in
      moved m n xs ns (m ∷ ms) head tail (by_fate Stay m xs (m ∷ ms) fate here)
  first_of _ _ (is_unwrapped m xs ks ms fate content none inner later) n ns e =
      let is : m ∷ xs ≡ n ∷ ns = e in
      let head : m ≡ n = cc in
      let tail : xs ≡ ns = cc in
      let here : Unwrapped allow old new m xs (ks ++ ms) = record { under = ks; rest = ms; list = refl; content = content; none = none; inner = inner; later = later } in
      moved m n xs ns (ks ++ ms) head tail (by_fate Unwrap m xs (ks ++ ms) fate here)
  first_of _ _ (vanishes m xs ms fate left later) n ns e =
      let is : m ∷ xs ≡ n ∷ ns = e in
      let head : m ≡ n = cc in
      let tail : xs ≡ ns = cc in
      let here : Vanished allow old new m xs ms = record { left = left; later = later } in
      moved m n xs ns ms head tail (by_fate Vanish m xs ms fate here)

  pub none_of : (xs ms : List ℕ) → Clean allow old new xs ms → xs ≡ [] → ms ≡ []
  none_of _ _ nothing e = refl
  none_of _ _ (stays m xs ms fate content inner later) e = absurd (let bad : m ∷ xs ≡ [] = e in cc)
  none_of _ _ (is_unwrapped m xs ks ms fate content none inner later) e = absurd (let bad : m ∷ xs ≡ [] = e in cc)
  none_of _ _ (vanishes m xs ms fate left later) e = absurd (let bad : m ∷ xs ≡ [] = e in cc)

record SameAt (a b : Forest) (n : ℕ) : Type 0 where
  content : slice_get a.content n ≡ slice_get b.content n
  children : children_of a n ≡ children_of b n

both_left : (old a b : Forest) (n : ℕ) → IsLeft old a n → IsLeft old b n → SameAt a b n
both_left old a b n p q = record { content = p.content ∙ sym q.content; children = p.children ∙ sym q.children }

module _ (allow : Lists) (old a b : Forest) (was : IsForest old) (were : AreTrees old) where
  record Agree (ns ms qs : List ℕ) : Type 0 where
    list : ms ≡ qs
    nodes : (i : ℕ) → is_member i (walk (trees old ns)) ≡ true → SameAt a b i

  agree : (ns ms : List ℕ) → Clean allow old a ns ms → (qs : List ℕ) → Clean allow old b ns qs → AreInside old ns → Agree ns ms qs
  agree _ _ nothing qs d known = record { list = sym (none_of allow old b [] qs d refl); nodes = λ i s. absurd (walk-nothing old were i s) }
  agree _ _ (stays n ns ms fate content inner later) qs d known =
      let other : Staying allow old b n ns qs = subst (λ f. First allow old b f n ns qs) fate (first_of allow old b (n ∷ ns) qs d n ns refl) in
      let under = agree (children_of old n) (children_of a n) inner (children_of b n) other.inner (children_inside old was n) in
      let rest = agree ns ms later other.rest other.later (inside_rest old n ns known) in
      let here : SameAt a b n = record { content = content ∙ sym other.content; children = under.list } in
      record {
        list = ap (λ xs. n ∷ xs) rest.list ∙ sym other.list;
        nodes = λ i s. elim (walk-cases old were n i ns known s) [
          | inl e ↦ subst (SameAt a b) e here
          | inr r ↦ elim r [ inl below ↦ under.nodes i below | inr after ↦ rest.nodes i after ]
        ];
      }
  agree _ _ (is_unwrapped n ns ks ms fate content none inner later) qs d known =
      let other : Unwrapped allow old b n ns qs = subst (λ f. First allow old b f n ns qs) fate (first_of allow old b (n ∷ ns) qs d n ns refl) in
      let under = agree (children_of old n) ks inner other.under other.inner (children_inside old was n) in
      let rest = agree ns ms later other.rest other.later (inside_rest old n ns known) in
      let here : SameAt a b n = record { content = content ∙ sym other.content; children = none ∙ sym other.none } in
      record {
        list = ap (λ xs. xs ++ ms) under.list ∙ ap (λ xs. other.under ++ xs) rest.list ∙ sym other.list;
        nodes = λ i s. elim (walk-cases old were n i ns known s) [
          | inl e ↦ subst (SameAt a b) e here
          | inr r ↦ elim r [ inl below ↦ under.nodes i below | inr after ↦ rest.nodes i after ]
        ];
      }
  agree _ _ (vanishes n ns ms fate left later) qs d known =
      let other : Vanished allow old b n ns qs = subst (λ f. First allow old b f n ns qs) fate (first_of allow old b (n ∷ ns) qs d n ns refl) in
      let rest = agree ns ms later qs other.later (inside_rest old n ns known) in
      let here : (i : ℕ) → is_member i (n ∷ descendants_in_order old n) ≡ true → SameAt a b i = λ i s. both_left old a b i (left i s) (other.left i s) in
      record {
        list = rest.list;
        nodes = λ i s. elim (walk-cases old were n i ns known s) [
          | inl e ↦ subst (SameAt a b) e (here n (first n (descendants_in_order old n)))
          | inr r ↦ elim r [ inl below ↦ here i (behind n i (descendants_in_order old n) below) | inr after ↦ rest.nodes i after ]
        ];
      }
    where
      first : (n : ℕ) (ns : List ℕ) → is_member n (n ∷ ns) ≡ true
      first n ns = or_left (n == n) (is_member n ns) (eq-eqb n n refl)

      behind : (n i : ℕ) (ns : List ℕ) → is_member i ns ≡ true → is_member i (n ∷ ns) ≡ true
      behind n i ns s = or_right (n == i) (is_member i ns) s

  same_at : Cleaned allow old a → Cleaned allow old b → (n : ℕ) → SameAt a b n
  same_at one two n =
      let below = agree (children_of old 0) (children_of a 0) one.below (children_of b 0) two.below (children_inside old was 0) in
      elim (cases_Bool (n == 0)) [
        | inl t ↦ subst (SameAt a b) (sym (eqb-true n 0 t)) (record { content = one.root ∙ sym two.root; children = below.list })
        | inr f ↦ elim (cases_Bool (is_member n (descendants_in_order old 0))) [
          | inl s ↦ below.nodes n s
          | inr out ↦ (let off : n ≡ 0 → ⊥ = λ e. true≢false (sym (eq-eqb n 0 e) ∙ f) in both_left old a b n (one.elsewhere n off out) (two.elsewhere n off out))
        ]
      ]

-- two lists with the same elements
same_data : (contents others : List NodeData) → ((n : ℕ) → slice_get contents n ≡ slice_get others n) → contents ≡ others
same_data [] [] each = refl
same_data [] (y ∷ ys) each = absurd (let bad : None ≡ Some y = each 0 in cc)
same_data (x ∷ xs) [] each = absurd (let bad : Some x ≡ None = each 0 in cc)
same_data (x ∷ xs) (y ∷ ys) each = ap (λ z. z ∷ xs) (same_Some x y (each 0)) ∙ ap (λ zs. y ∷ zs) (same_data xs ys (λ n. each (suc n)))

same_rows : (rows others : List (List ℕ)) → length rows ≡ length others → ((n : ℕ) → slice_index_or rows n [] ≡ slice_index_or others n []) → rows ≡ others
same_rows [] [] long each = refl
same_rows [] (y ∷ ys) long each = absurd (omega (arith, long))
same_rows (x ∷ xs) [] long each = absurd (omega (arith, long))
same_rows (x ∷ xs) (y ∷ ys) long each = ap (λ z. z ∷ xs) (each 0) ∙ ap (λ zs. y ∷ zs) (same_rows xs ys (omega (arith, long)) (λ n. each (suc n)))

same_forest : (a b : Forest) → a.content ≡ b.content → a.children ≡ b.children → a.runs ≡ b.runs → a ≡ b
same_forest a b contents rows runs =
    let of : List NodeData → List (List ℕ) → List (List ℕ) → Forest = λ c k r. record { content = c; children = k; runs = r } in
    ap (λ c. of c a.children a.runs) contents ∙ ap (λ k. of b.content k a.runs) rows ∙ ap (λ r. of b.content b.children r) runs

pub one_clean : (allow : Lists) (old a b : Forest) → IsForest old → AreTrees old → IsForest a → IsForest b → Cleaned allow old a → Cleaned allow old b → a ≡ b
one_clean allow old a b was were good fine one two =
    let same = same_at allow old a b was were one two in
    let contents : a.content ≡ b.content = same_data a.content b.content (λ n. (same n).content) in
    let long : length a.content ≡ length b.content = ap length contents in
    let rows : a.children ≡ b.children = same_rows a.children b.children (good.once.children_each ∙ long ∙ sym fine.once.children_each) (λ n. (same n).children) in
    let parents : (n : ℕ) → parent a n ≡ parent b n = λ n. ap (λ k. owner_from 0 k n) rows in
    let runs : a.runs ≡ b.runs = same_rows a.runs b.runs (good.once.runs_each ∙ long ∙ sym fine.once.runs_each) (λ n. elim (cases_Bool (is_member n (descendants_in_order old 0))) [
      | inr out ↦ one.beside n out ∙ sym (two.beside n out)
      | inl s ↦ run_same n (parent a n) refl (parents n) s
    ]) in
    same_forest a b contents rows runs
  where
    run_same : (n : ℕ) (o : Option ℕ) → parent a n ≡ o → parent a n ≡ parent b n → is_member n (descendants_in_order old 0) ≡ true → run_of a n ≡ run_of b n
    run_same n None e same s = one.alone n s e ∙ sym (two.alone n s (sym same ∙ e))
    run_same n (Some p) e same s = good.once.no_run p n e ∙ sym (fine.once.no_run p n (sym same ∙ e))

-- what was cleaned, cleaned again by the same lists, is as it was
pub stays_clean : (allow : Lists) (old new : Forest) → IsForest new → AreTrees new → AreLines new → Cleaned allow old new → StaysClean allow new
stays_clean allow old new good are lines cleaned = λ again fine second.
    let left = same_everywhere allow new again good are (are_allowed allow old new good are cleaned) second in
    let contents : again.content ≡ new.content = same_data again.content new.content (λ n. (left n).content) in
    let long : length again.content ≡ length new.content = ap length contents in
    let rows : again.children ≡ new.children = same_rows again.children new.children (fine.once.children_each ∙ long ∙ sym good.once.children_each) (λ n. (left n).children) in
    let parents : (n : ℕ) → parent again n ≡ parent new n = λ n. ap (λ k. owner_from 0 k n) rows in
    let runs : again.runs ≡ new.runs = same_rows again.runs new.runs (fine.once.runs_each ∙ long ∙ sym good.once.runs_each) (λ n. elim (cases_Bool (is_member n (descendants_in_order new 0))) [
      | inr out ↦ second.beside n out
      | inl s ↦ run_same again fine n (parent new n) refl (parents n) s
    ]) in
    same_forest again new contents rows runs
  where
    run_same : (again : Forest) → IsForest again → (n : ℕ) (o : Option ℕ) → parent new n ≡ o → parent again n ≡ parent new n → is_member n (descendants_in_order new 0) ≡ true → run_of again n ≡ run_of new n
    run_same again fine n None e same s = absurd (true≢false (sym s ∙ lines.below_above 0 n ∙ ap (is_member 0) (lines.top n e)))
    run_same again fine n (Some p) e same s = fine.once.no_run p n (same ∙ e) ∙ sym (good.once.no_run p n e)
