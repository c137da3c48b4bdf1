-- Where the numbers of a forest stand.
use Rattle.std.proofs.Common.{ℕ, zero, suc, ◌≡◌, ◌<◌, ◌≤◌, ◌+◌, true, false, List, [], ◌∷◌, Option, Some, None, refl, sym, ap, ◌∙◌, subst, arith, cond, inl, inr, ◌⊎◌, length, map, get_or}
use Rattle.std.specs.Prelude.{◌&&◌, not}
use Rattle.std.proofs.lemmas.List.{get_or_past}
use Rattle.dom_links.specs.Lists.{is_member, IsDistinct, without}
use Rattle.dom_links.specs.Forest.{Forest, StandsOnce, children_of, run_of, owner_from, parent, children_or, siblings}
use Rattle.dom_links.specs.Lists.{map_from}
use Rattle.dom_links.proofs.forest.Neighbours.{is_member-without}

pub cases_Option : (o : Option ℕ) → (o ≡ None) ⊎ ((p : ℕ) × (o ≡ Some p))
cases_Option None = inl refl
cases_Option (Some p) = inr (p, refl)

pub siblings_child : (forest : Forest) (n p : ℕ) → parent forest n ≡ Some p → siblings forest n ≡ children_of forest p
siblings_child forest n p e = ap (λ o. children_or forest o (run_of forest n)) e

pub siblings_run : (forest : Forest) (n : ℕ) → parent forest n ≡ None → siblings forest n ≡ run_of forest n
siblings_run forest n e = ap (λ o. children_or forest o (run_of forest n)) e

pub siblings_once : (forest : Forest) (n : ℕ) → StandsOnce forest → IsDistinct (siblings forest n)
siblings_once forest n once = elim (cases_Option (parent forest n)) [
  | inl e ↦ subst IsDistinct (sym (siblings_run forest n e)) (once.run_once n)
  | inr (p, e) ↦ subst IsDistinct (sym (siblings_child forest n p e)) (once.children_once p)
]

-- who stands in the list of n is in the forest, and has the same parent and siblings
pub record Beside (forest : Forest) (n m : ℕ) : Type 0 where
  pub known : m < length forest.content
  pub same_parent : parent forest m ≡ parent forest n
  pub same_siblings : siblings forest m ≡ siblings forest n

pub beside : (forest : Forest) (n m : ℕ) → StandsOnce forest → is_member m (siblings forest n) ≡ true → Beside forest n m
beside forest n m once h = elim (cases_Option (parent forest n)) [
  | inl e ↦ (let facts = once.in_run n m (subst (λ (ns : List ℕ). is_member m ns ≡ true) (siblings_run forest n e) h) in
      record { known = facts.0; same_parent = facts.1 ∙ sym e; same_siblings = siblings_run forest m facts.1 ∙ facts.2 ∙ sym (siblings_run forest n e) })
  | inr (p, e) ↦ (let facts = once.in_children p m (subst (λ (ns : List ℕ). is_member m ns ≡ true) (siblings_child forest n p e) h) in
      record { known = facts.0; same_parent = facts.1 ∙ sym e; same_siblings = siblings_child forest m p facts.1 ∙ sym (siblings_child forest n p e) })
]

-- lists of lists, read at a place
pub children_mapped : (f : List ℕ → List ℕ) (lists : List (List ℕ)) (p : ℕ) → f [] ≡ [] → get_or (map f lists) p [] ≡ f (get_or lists p [])
children_mapped f [] p e = sym e
children_mapped f (ns ∷ lists) zero e = refl
children_mapped f (ns ∷ lists) (suc p) e = children_mapped f lists p e

pub get_or-map_from : (i : ℕ) (f : ℕ → List ℕ → List ℕ) (lists : List (List ℕ)) (n : ℕ) → n < length lists → get_or (map_from i f lists) n [] ≡ f (i + n) (get_or lists n [])
get_or-map_from i f [] n h = absurd (omega arith)
get_or-map_from i f (ns ∷ lists) zero h = ap (λ (k : ℕ). f k ns) (omega arith)
get_or-map_from i f (ns ∷ lists) (suc n) h =
    get_or-map_from (i + 1) f lists n (omega arith) ∙ ap (λ (k : ℕ). f k (get_or lists n [])) (omega arith)

pub get_or-map_all : (f : ℕ → List ℕ → List ℕ) (lists : List (List ℕ)) (n : ℕ) → n < length lists → get_or (map_from 0 f lists) n [] ≡ f n (get_or lists n [])
get_or-map_all f lists n h =
    let e : 0 + n ≡ n = omega arith in
    get_or-map_from 0 f lists n h ∙ ap (λ (k : ℕ). f k (get_or lists n [])) e

pub length-map_from : (i : ℕ) (f : ℕ → List ℕ → List ℕ) (lists : List (List ℕ)) → length (map_from i f lists) ≡ length lists
length-map_from i f [] = refl
length-map_from i f (ns ∷ lists) = ap suc (length-map_from (i + 1) f lists)

pub owner-without : (i : ℕ) (moved : List ℕ) (lists : List (List ℕ)) (n : ℕ) →
    owner_from i (map (without moved) lists) n ≡ cond (is_member n moved) None (owner_from i lists n)
owner-without i moved [] n = elim (is_member n moved) as (λ t. None ≡ cond {A = Option ℕ} t None None) [ true ↦ refl | false ↦ refl ]
owner-without i moved (ns ∷ lists) n =
    rw (is_member-without moved ns n, owner-without (i + 1) moved lists n)
    (elim (is_member n moved) as (λ t. cond (is_member n ns && not t) (Some i) (cond t None (owner_from (i + 1) lists n)) ≡ cond t None (cond (is_member n ns) (Some i) (owner_from (i + 1) lists n))) [
      | true ↦ (elim (is_member n ns) as (λ u. cond (u && false) (Some i) None ≡ None) [ true ↦ refl | false ↦ refl ])
      | false ↦ (elim (is_member n ns) as (λ u. cond (u && true) (Some i) (owner_from (i + 1) lists n) ≡ cond u (Some i) (owner_from (i + 1) lists n)) [ true ↦ refl | false ↦ refl ])
    ])

pub get_or-map_past : (f : ℕ → List ℕ → List ℕ) (lists : List (List ℕ)) (n : ℕ) → length lists ≤ n → get_or (map_from 0 f lists) n [] ≡ []
get_or-map_past f lists n h = get_or_past (map_from 0 f lists) n [] (omega (arith, length-map_from 0 f lists))
