-- A forest whose children lists are as the steps say is the clean of the one that they were planned for.
use Rattle.std.proofs.Common.{ℕ, ◌≡◌, true, false, List, [], ◌∷◌, ◌++◌, Some, None, refl, sym, ap, ◌∙◌, subst, inl, inr}
use Rattle.std.specs.Prelude.{◌==◌, ◌||◌, ◌&&◌, slice_get}
use Rattle.std.specs.Option.{option_map}
use Rattle.std.proofs.lemmas.Bool.{cases_Bool, eqb-true, eq-eqb, or_parts, true≢false, or_right, or_left}
use Rattle.dom_links.specs.Forest.{Forest, children_of}
use Rattle.dom_links.specs.Laws.{AreTrees}
use Rattle.dom_links.specs.Lists.{is_member, IsDistinct, without}
use Rattle.dom_links.specs.Sound.{IsForest}
use Rattle.dom_links.specs.Trees.{Trees, NoTrees, Tree, trees, walk}
use Rattle.dom_sanitize.specs.Clean.{Clean, nothing, stays, is_unwrapped, vanishes, IsLeft, Lists, fate_at, kept}
use Rattle.dom_sanitize.specs.Plan.{homed, ids, planned, staying}
use Rattle.dom_sanitize.specs.declared.plan.Fate.TheVariants.{Stay, Unwrap, Vanish}
use Rattle.dom_sanitize.specs.declared.plan.Step.{Step}
use Rattle.dom_links.proofs.moves.BlockLists.{without_all, without_none}
use Rattle.dom_links.proofs.forest.Neighbours.{distinct_parts}
use Rattle.dom_sanitize.proofs.NumberLists.{apart-back, in_back, in_front, other, out_parts, turned}
use Rattle.dom_sanitize.proofs.PlanLemmas.{Absent, Alike, AreInside, absent-append, absent-nothing, absent-planned, alike-back, alike-front, alike-then, cases_Fate, homed-append, inside_rest, no_parts, no_trees, not_staying, parts, root_planned, root_walked}

-- a child of a node of the walk is in the walk
pub child_walked : (forest : Forest) (t : Trees) (ns : List ℕ) (m n : ℕ) → IsForest forest → AreTrees forest → AreInside forest ns → t ≡ trees forest ns → is_member m (walk t) ≡ true → is_member n (children_of forest m) ≡ true → is_member n (walk t) ≡ true
child_walked forest NoTrees ns m n good are known e s c = absurd (true≢false (sym s))
child_walked forest (Tree r h k l) [] m n good are known e s c = absurd (no_trees forest r h k l are e)
child_walked forest (Tree r h k l) (i ∷ ns) m n good are known e s c =
    let p = parts forest i ns r h k l are known e in
    let inside : AreInside forest (children_of forest i) = λ j u. (good.once.in_children i j u).0 in
    or_right (r == n) _ (elim (cases_Bool (r == m)) [
      | inl t ↦ (let here : m ≡ i = sym (eqb-true r m t) ∙ p.root in
          in_front (walk k) (walk l) n (root_walked forest k (children_of forest i) n are inside p.children (ap (λ j. is_member n (children_of forest j)) (sym here) ∙ c)))
      | inr f ↦ (let below : is_member m (walk k ++ walk l) ≡ true = rw f at s in
          elim (cases_Bool (is_member m (walk k))) [
            | inl t ↦ in_front (walk k) (walk l) n (child_walked forest k (children_of forest i) m n good are inside p.children t c)
            | inr g ↦ in_back (walk k) (walk l) n (child_walked forest l ns m n good are (inside_rest forest i ns known) p.later (in_the_back (walk k) (walk l) m g below) c)
          ])
    ])
  where
    in_the_back : (xs ys : List ℕ) (m : ℕ) → is_member m xs ≡ false → is_member m (xs ++ ys) ≡ true → is_member m ys ≡ true
    in_the_back [] ys m out s = s
    in_the_back (x ∷ xs) ys m out s = elim (cases_Bool (x == m)) [
      | inl t ↦ absurd (true≢false (sym (or_left (x == m) (is_member m xs) t) ∙ out))
      | inr f ↦ in_the_back xs ys m (rw f at out) (rw f at s)
    ]

-- the new forest's children lists and data, as the steps give them
pub record IsMade (allow : Lists) (old new : Forest) (all : List Step) : Type 0 where
  pub children : (n : ℕ) → children_of new n ≡ homed n all ++ without (ids all) (children_of old n)
  pub cleared : (n : ℕ) → staying n all ≡ true → slice_get new.content n ≡ option_map (kept allow) (slice_get old.content n)
  pub same : (n : ℕ) → staying n all ≡ false → slice_get new.content n ≡ slice_get old.content n

append-nothing : (ns : List ℕ) → ns ++ [] ≡ ns
append-nothing [] = refl
append-nothing (n ∷ ns) = ap (λ ms. n ∷ ms) (append-nothing ns)

apart_from : (a n : ℕ) (ns : List ℕ) → is_member n (a ∷ ns) ≡ false → (a == n) ≡ false
apart_from a n ns out = (or_parts (a == n) (is_member n ns) out).0

homed_front : (n : ℕ) (ss ts : List Step) → Absent n ts → homed n (ss ++ ts) ≡ homed n ss
homed_front n ss ts none = homed-append n ss ts ∙ rw none.not_home (append-nothing (homed n ss))

homed_back : (n : ℕ) (ss ts : List Step) → Absent n ss → homed n (ss ++ ts) ≡ homed n ts
homed_back n ss ts none = homed-append n ss ts ∙ rw none.not_home refl

not_put : (n : ℕ) (ss ts : List Step) → Absent n ss → Absent n ts → staying n (ss ++ ts) ≡ false
not_put n ss ts one two = not_staying n (ss ++ ts) (absent-append n ss ts one two).not_id

-- a step that puts no node, before steps that aren't of m
none_put : (n m : ℕ) (ss : List Step) → Absent m ss → staying m (record { id = n; home = None } ∷ ss) ≡ false
none_put n m ss none = elim (n == m) as (λ t. ((t && false) || staying m ss) ≡ false) [ true ↦ not_staying m ss none.not_id | false ↦ not_staying m ss none.not_id ]

module _ (allow : Lists) (old new : Forest) (all : List Step) (good : IsForest old) (are : AreTrees old) (made : IsMade allow old new all) where
  pub children_inside : (n : ℕ) → AreInside old (children_of old n)
  children_inside n = λ m s. (good.once.in_children n m s).0

  -- all children have steps, so the new ones are those that are put there
  pub new_children : (n : ℕ) (ns : List ℕ) → ((m : ℕ) → is_member m (children_of old n) ≡ true → is_member m (ids all) ≡ true) → homed n all ≡ ns → children_of new n ≡ ns
  new_children n ns each is = made.children n ∙ ap (λ ms. homed n all ++ ms) (without_all (ids all) (children_of old n) each) ∙ append-nothing (homed n all) ∙ is

  pub left_children : (n : ℕ) → ((m : ℕ) → is_member m (children_of old n) ≡ true → is_member m (ids all) ≡ false) → homed n all ≡ [] → children_of new n ≡ children_of old n
  left_children n each none = made.children n ∙ rw none (without_none (ids all) (children_of old n) each)

  abbrev Agree : ℕ → Trees → Type 0
  Agree h t = (n : ℕ) → is_member n (walk t) ≡ true → Alike n all (planned allow old h t)

  -- one node, by what becomes of it
  node_stays : (n h : ℕ) (ns : List ℕ) (c k l : Trees) → fate_at allow old n ≡ Stay → k ≡ trees old (children_of old n) → IsDistinct (n ∷ (walk k ++ walk l)) → is_member h (n ∷ (walk k ++ walk l)) ≡ false →
      Agree h (Tree n c k l) → (Agree n k → Clean allow old new (children_of old n) (homed n (planned allow old n k))) → (Agree h l → Clean allow old new ns (homed h (planned allow old h l))) →
      Clean allow old new (n ∷ ns) (homed h (planned allow old h (Tree n c k l)))
  node_stays n h ns c k l fate below once out agree inner outer =
      let out_n = out_parts (walk k) (walk l) n once.0 in
      let h_n : (h == n) ≡ false = other (n ∷ (walk k ++ walk l)) h n out (or_left (n == n) _ (eq-eqb n n refl)) in
      let n_h : (n == h) ≡ false = turned h n h_n in
      let out_h = out_parts (walk k) (walk l) h (rw n_h at out) in
      let split : planned allow old h (Tree n c k l) ≡ record { id = n; home = Some h } ∷ planned allow old n k ++ planned allow old h l = rw fate refl in
      let agree_k : Agree n k = λ m s.
      let in_all = in_front (walk k) (walk l) m s in
      let h_m = other (n ∷ (walk k ++ walk l)) h m out (or_right (n == m) _ in_all) in
      let n_m = other (walk k ++ walk l) n m once.0 in_all in
      alike-then m all _ _ (subst (Alike m all) split (agree m (or_right (n == m) _ in_all)))
      (alike-front m (record { id = n; home = Some h }) _ _ h_m n_m (absent-planned allow old l h m h_m ((distinct_parts (walk k) (walk l) once.1).2 m s)))
      in
      let agree_l : Agree h l = λ m s.
      let in_all = in_back (walk k) (walk l) m s in
      let h_m = other (n ∷ (walk k ++ walk l)) h m out (or_right (n == m) _ in_all) in
      let n_m = other (walk k ++ walk l) n m once.0 in_all in
      alike-then m all _ _ (subst (Alike m all) split (agree m (or_right (n == m) _ in_all)))
      (alike-back m (record { id = n; home = Some h }) _ _ h_m n_m (absent-planned allow old k n m n_m (apart-back (walk k) (walk l) m once.1 s)))
      in
      let here = subst (Alike n all) split (agree n (or_left (n == n) _ (eq-eqb n n refl))) in
      let homes : homed n all ≡ homed n (planned allow old n k) =
      here.homes ∙ rw h_n (homed_front n (planned allow old n k) (planned allow old h l) (absent-planned allow old l h n h_n out_n.1)) in
      let each : (m : ℕ) → is_member m (children_of old n) ≡ true → is_member m (ids all) ≡ true = λ m s.
      (agree_k m (root_walked old k (children_of old n) m are (children_inside n) below s)).stands ∙ root_planned allow old k (children_of old n) n m are (children_inside n) below s in
      let kids : children_of new n ≡ homed n (planned allow old n k) = new_children n (homed n (planned allow old n k)) each homes in
      let put : staying n all ≡ true = here.stays ∙ rw (eq-eqb n n refl) refl in
      let list : homed h (planned allow old h (Tree n c k l)) ≡ n ∷ homed h (planned allow old h l) =
      ap (homed h) split ∙ rw (eq-eqb h h refl) (ap (λ ms. n ∷ ms) (homed_back h (planned allow old n k) (planned allow old h l) (absent-planned allow old k n h n_h out_h.0))) in
      subst (Clean allow old new (n ∷ ns)) (sym list)
      (stays n ns (homed h (planned allow old h l)) fate (made.cleared n put) (subst (Clean allow old new (children_of old n)) (sym kids) (inner agree_k)) (outer agree_l))

  node_unwrapped : (n h : ℕ) (ns : List ℕ) (c k l : Trees) → fate_at allow old n ≡ Unwrap → k ≡ trees old (children_of old n) → IsDistinct (n ∷ (walk k ++ walk l)) → is_member h (n ∷ (walk k ++ walk l)) ≡ false →
      Agree h (Tree n c k l) → (Agree h k → Clean allow old new (children_of old n) (homed h (planned allow old h k))) → (Agree h l → Clean allow old new ns (homed h (planned allow old h l))) →
      Clean allow old new (n ∷ ns) (homed h (planned allow old h (Tree n c k l)))
  node_unwrapped n h ns c k l fate below once out agree inner outer =
      let out_n = out_parts (walk k) (walk l) n once.0 in
      let h_n : (h == n) ≡ false = other (n ∷ (walk k ++ walk l)) h n out (or_left (n == n) _ (eq-eqb n n refl)) in
      let split : planned allow old h (Tree n c k l) ≡ record { id = n; home = None } ∷ planned allow old h k ++ planned allow old h l = rw fate refl in
      let agree_k : Agree h k = λ m s.
      let in_all = in_front (walk k) (walk l) m s in
      let h_m = other (n ∷ (walk k ++ walk l)) h m out (or_right (n == m) _ in_all) in
      let n_m = other (walk k ++ walk l) n m once.0 in_all in
      alike-then m all _ _ (subst (Alike m all) split (agree m (or_right (n == m) _ in_all)))
      (alike-front m (record { id = n; home = None }) _ _ refl n_m (absent-planned allow old l h m h_m ((distinct_parts (walk k) (walk l) once.1).2 m s)))
      in
      let agree_l : Agree h l = λ m s.
      let in_all = in_back (walk k) (walk l) m s in
      let h_m = other (n ∷ (walk k ++ walk l)) h m out (or_right (n == m) _ in_all) in
      let n_m = other (walk k ++ walk l) n m once.0 in_all in
      alike-then m all _ _ (subst (Alike m all) split (agree m (or_right (n == m) _ in_all)))
      (alike-back m (record { id = n; home = None }) _ _ refl n_m (absent-planned allow old k h m h_m (apart-back (walk k) (walk l) m once.1 s)))
      in
      let here = subst (Alike n all) split (agree n (or_left (n == n) _ (eq-eqb n n refl))) in
      let none_k = absent-planned allow old k h n h_n out_n.0 in
      let none_l = absent-planned allow old l h n h_n out_n.1 in
      let homes : homed n all ≡ [] = here.homes ∙ homed_front n (planned allow old h k) (planned allow old h l) none_l ∙ none_k.not_home in
      let each : (m : ℕ) → is_member m (children_of old n) ≡ true → is_member m (ids all) ≡ true = λ m s.
      (agree_k m (root_walked old k (children_of old n) m are (children_inside n) below s)).stands ∙ root_planned allow old k (children_of old n) h m are (children_inside n) below s in
      let kids : children_of new n ≡ [] = new_children n [] each homes in
      let put : staying n all ≡ false = here.stays ∙ rw (eq-eqb n n refl) (not_put n (planned allow old h k) (planned allow old h l) none_k none_l) in
      let list : homed h (planned allow old h (Tree n c k l)) ≡ homed h (planned allow old h k) ++ homed h (planned allow old h l) =
      ap (homed h) split ∙ homed-append h (planned allow old h k) (planned allow old h l) in
      subst (Clean allow old new (n ∷ ns)) (sym list)
      (is_unwrapped n ns (homed h (planned allow old h k)) (homed h (planned allow old h l)) fate (made.same n put) kids (inner agree_k) (outer agree_l))

  node_vanishes : (n h : ℕ) (ns : List ℕ) (c k l : Trees) → fate_at allow old n ≡ Vanish → k ≡ trees old (children_of old n) → IsDistinct (n ∷ (walk k ++ walk l)) → is_member h (n ∷ (walk k ++ walk l)) ≡ false →
      Agree h (Tree n c k l) → (Agree h l → Clean allow old new ns (homed h (planned allow old h l))) →
      Clean allow old new (n ∷ ns) (homed h (planned allow old h (Tree n c k l)))
  node_vanishes n h ns c k l fate below once out agree outer =
      let out_n = out_parts (walk k) (walk l) n once.0 in
      let split : planned allow old h (Tree n c k l) ≡ record { id = n; home = None } ∷ planned allow old h l = rw fate refl in
      let agree_l : Agree h l = λ m s.
      let in_all = in_back (walk k) (walk l) m s in
      let n_m = other (walk k ++ walk l) n m once.0 in_all in
      alike-then m all _ _ (subst (Alike m all) split (agree m (or_right (n == m) _ in_all)))
      (alike-back m (record { id = n; home = None }) [] (planned allow old h l) refl n_m (absent-nothing m))
      in
      -- none of them is put anywhere, and nothing below them
      let gone : (m : ℕ) → is_member m (n ∷ walk k) ≡ true → is_member m (walk l) ≡ false = λ m s. elim (cases_Bool (n == m)) [
        | inl t ↦ subst (λ (i : ℕ). is_member i (walk l) ≡ false) (eqb-true n m t) out_n.1
        | inr f ↦ (distinct_parts (walk k) (walk l) once.1).2 m (rw f at s)
      ] in
      let in_tree : (m : ℕ) → is_member m (n ∷ walk k) ≡ true → is_member m (n ∷ (walk k ++ walk l)) ≡ true = λ m s. in_front (n ∷ walk k) (walk l) m s in
      let home_off : (m : ℕ) → is_member m (n ∷ walk k) ≡ true → (h == m) ≡ false = λ m s. other (n ∷ (walk k ++ walk l)) h m out (in_tree m s) in
      let alike : (m : ℕ) → is_member m (n ∷ walk k) ≡ true → Alike m all (record { id = n; home = None } ∷ planned allow old h l) = λ m s. subst (Alike m all) split (agree m (in_tree m s)) in
      let absent : (m : ℕ) → is_member m (n ∷ walk k) ≡ true → Absent m (planned allow old h l) = λ m s. absent-planned allow old l h m (home_off m s) (gone m s) in
      let child_off : (m i : ℕ) → is_member m (n ∷ walk k) ≡ true → is_member i (children_of old m) ≡ true → is_member i (ids all) ≡ false = λ m i s c.
      let inside : is_member i (walk k) ≡ true = elim (cases_Bool (n == m)) [
        | inl t ↦ root_walked old k (children_of old n) i are (children_inside n) below (ap (λ j. is_member i (children_of old j)) (eqb-true n m t) ∙ c)
        | inr f ↦ child_walked old k (children_of old n) m i good are (children_inside n) below (rw f at s) c
      ] in
      let at_i = or_right (n == i) (is_member i (walk k)) inside in
      let n_i = other (walk k ++ walk l) n i once.0 (in_front (walk k) (walk l) i inside) in
      (alike i at_i).stands ∙ rw n_i (absent i at_i).not_id in
      let left : (m : ℕ) → is_member m (n ∷ walk k) ≡ true → IsLeft old new m = λ m s. record {
        content = made.same m ((alike m s).stays ∙ none_put n m (planned allow old h l) (absent m s));
        children = left_children m (λ i c. child_off m i s c) ((alike m s).homes ∙ (absent m s).not_home);
      } in
      let list : homed h (planned allow old h (Tree n c k l)) ≡ homed h (planned allow old h l) = ap (homed h) split in
      subst (Clean allow old new (n ∷ ns)) (sym list)
      (vanishes n ns (homed h (planned allow old h l)) fate (λ m s. left m (ap (λ ts. is_member m (n ∷ walk ts)) below ∙ s)) (outer agree_l))

  -- the clean of a list of nodes
  pub clean_made : (t : Trees) (ns : List ℕ) (h : ℕ) → AreInside old ns → t ≡ trees old ns → IsDistinct (walk t) → is_member h (walk t) ≡ false → Agree h t → Clean allow old new ns (homed h (planned allow old h t))
  clean_made NoTrees [] h known e once out agree = nothing
  clean_made NoTrees (n ∷ ns) h known e once out agree = absurd (no_parts old n ns are known e)
  clean_made (Tree r c k l) [] h known e once out agree = absurd (no_trees old r c k l are e)
  clean_made (Tree r c k l) (n ∷ ns) h known e once out agree =
      let p = parts old n ns r c k l are known e in
      let below : k ≡ trees old (children_of old r) = p.children ∙ ap (λ i. trees old (children_of old i)) (sym p.root) in
      let halves = distinct_parts (walk k) (walk l) once.1 in
      let out_r = out_parts (walk k) (walk l) r once.0 in
      let r_h : (r == h) ≡ false = apart_from r h (walk k ++ walk l) out in
      let out_h = out_parts (walk k) (walk l) h (rw r_h at out) in
      let outer = clean_made l ns h (inside_rest old n ns known) p.later halves.1 out_h.1 in
      subst (λ i. Clean allow old new (i ∷ ns) (homed h (planned allow old h (Tree r c k l)))) p.root
      (elim (cases_Fate (fate_at allow old r)) [
        | inl f ↦ node_stays r h ns c k l f below once out agree (clean_made k (children_of old r) r (children_inside r) below halves.0 out_r.0) outer
        | inr g ↦ elim g [
          | inl f ↦ node_unwrapped r h ns c k l f below once out agree (clean_made k (children_of old r) h (children_inside r) below halves.0 out_h.0) outer
          | inr f ↦ node_vanishes r h ns c k l f below once out agree outer
        ]
      ])
