-- What the steps of a cleaning say of each node.
use Rattle.std.proofs.Common.{ℕ, ◌≡◌, ◌<◌, Bool, true, false, List, [], ◌∷◌, ◌++◌, refl, sym, ap, ◌∙◌, inl, inr, length}
use Rattle.std.specs.Prelude.{◌==◌, ◌||◌, ◌&&◌, ◌⊎◌, is_some}
use Rattle.std.proofs.lemmas.Bool.{cases_Bool, or_parts, true≢false, or_right, or_left}
use Rattle.dom_links.specs.Forest.{Forest, children_of}
use Rattle.dom_links.specs.Laws.{AreTrees}
use Rattle.dom_links.specs.Lists.{is_member}
use Rattle.dom_links.specs.Trees.{Trees, NoTrees, Tree, contents_list, trees, walk}
use Rattle.dom_sanitize.specs.Clean.{Lists, fate_at}
use Rattle.dom_sanitize.specs.Plan.{home_of, homed, ids, is_home, planned, staying, steps_under}
use Rattle.dom_sanitize.specs.declared.plan.Fate.{Fate}
use Rattle.dom_sanitize.specs.declared.plan.Fate.TheVariants.{Stay, Unwrap, Vanish}
use Rattle.dom_sanitize.specs.declared.plan.Step.{Step}
use Rattle.dom_links.proofs.forest.Neighbours.{is_member-append}
use Rattle.dom_sanitize.proofs.NumberLists.{in_back, out_of_both, out_parts}

pub cases_Fate : (f : Fate) → (f ≡ Stay) ⊎ ((f ≡ Unwrap) ⊎ (f ≡ Vanish))
cases_Fate Stay = inl refl
cases_Fate Unwrap = inr (inl refl)
cases_Fate Vanish = inr (inr refl)

pub ids-append : (ss ts : List Step) → ids (ss ++ ts) ≡ ids ss ++ ids ts
ids-append [] ts = refl
ids-append (s ∷ ss) ts = ap (λ ns. s.id ∷ ns) (ids-append ss ts)

pub homed-append : (n : ℕ) (ss ts : List Step) → homed n (ss ++ ts) ≡ homed n ss ++ homed n ts
homed-append n [] ts = refl
homed-append n (s ∷ ss) ts = elim (cases_Bool (is_home s.home n)) [
  | inl t ↦ rw t (ap (λ ns. s.id ∷ ns) (homed-append n ss ts))
  | inr f ↦ rw f (homed-append n ss ts)
]

pub staying-append : (n : ℕ) (ss ts : List Step) → staying n (ss ++ ts) ≡ (staying n ss || staying n ts)
staying-append n [] ts = refl
staying-append n (s ∷ ss) ts =
    elim ((s.id == n) && is_some s.home) as (λ t. (t || staying n (ss ++ ts)) ≡ ((t || staying n ss) || staying n ts))
    [ true ↦ refl | false ↦ staying-append n ss ts ]

-- no step is of the node, and none puts a node below it
pub record Absent (n : ℕ) (steps : List Step) : Type 0 where
  pub not_home : homed n steps ≡ []
  pub not_id : is_member n (ids steps) ≡ false

pub absent-nothing : (n : ℕ) → Absent n []
absent-nothing n = record { not_home = refl; not_id = refl }

pub absent-append : (n : ℕ) (ss ts : List Step) → Absent n ss → Absent n ts → Absent n (ss ++ ts)
absent-append n ss ts one two = record {
  not_home = homed-append n ss ts ∙ rw (one.not_home, two.not_home) refl;
  not_id = ap (is_member n) (ids-append ss ts) ∙ out_of_both (ids ss) (ids ts) n one.not_id two.not_id;
}

pub absent-under : (n : ℕ) (f : Fate) (ss ts : List Step) → Absent n ss → Absent n ts → Absent n (steps_under f ss ts)
absent-under n Stay ss ts one two = one
absent-under n Unwrap ss ts one two = two
absent-under n Vanish ss ts one two = absent-nothing n

other_home : (f : Fate) (h n : ℕ) → (h == n) ≡ false → is_home (home_of f h) n ≡ false
other_home Stay h n off = off
other_home Unwrap h n off = refl
other_home Vanish h n off = refl

pub absent-cons : (n : ℕ) (s : Step) (ss : List Step) → is_home s.home n ≡ false → (s.id == n) ≡ false → Absent n ss → Absent n (s ∷ ss)
absent-cons n s ss one two rest = record {
  not_home = rw one rest.not_home;
  not_id = rw two rest.not_id;
}

-- a node that isn't in the walk, and isn't the home
pub absent-planned : (allow : Lists) (forest : Forest) (t : Trees) (h n : ℕ) → (h == n) ≡ false → is_member n (walk t) ≡ false → Absent n (planned allow forest h t)
absent-planned allow forest NoTrees h n off out = absent-nothing n
absent-planned allow forest (Tree r c k l) h n off out =
    let two = or_parts (r == n) (is_member n (walk k ++ walk l)) out in
    let parts = out_parts (walk k) (walk l) n two.1 in
    let f = fate_at allow forest r in
    absent-cons n _ _ (other_home f h n off) two.0
    (absent-append n _ _
    (absent-under n f _ _ (absent-planned allow forest k r n two.0 parts.0) (absent-planned allow forest k h n off parts.0))
    (absent-planned allow forest l h n off parts.1))

pub not_staying : (n : ℕ) (ss : List Step) → is_member n (ids ss) ≡ false → staying n ss ≡ false
not_staying n [] out = refl
not_staying n (s ∷ ss) out = let two = or_parts (s.id == n) (is_member n (ids ss)) out in rw two.0 (not_staying n ss two.1)

-- the steps say the same of the node
pub record Alike (n : ℕ) (ss ts : List Step) : Type 0 where
  pub homes : homed n ss ≡ homed n ts
  pub stands : is_member n (ids ss) ≡ is_member n (ids ts)
  pub stays : staying n ss ≡ staying n ts

pub alike-self : (n : ℕ) (ss : List Step) → Alike n ss ss
alike-self n ss = record { homes = refl; stands = refl; stays = refl }

pub alike-then : (n : ℕ) (ss ts us : List Step) → Alike n ss ts → Alike n ts us → Alike n ss us
alike-then n ss ts us a b = record { homes = a.homes ∙ b.homes; stands = a.stands ∙ b.stands; stays = a.stays ∙ b.stays }

or-false : (a : Bool) → (a || false) ≡ a
or-false true = refl
or-false false = refl

append-nothing : (ns : List ℕ) → ns ++ [] ≡ ns
append-nothing [] = refl
append-nothing (n ∷ ns) = ap (λ ms. n ∷ ms) (append-nothing ns)

-- the node is in the front part alone
pub alike-front : (n : ℕ) (s : Step) (ss ts : List Step) → is_home s.home n ≡ false → (s.id == n) ≡ false → Absent n ts → Alike n (s ∷ ss ++ ts) ss
alike-front n s ss ts one two none = record {
  homes = rw one (homed-append n ss ts ∙ rw none.not_home (append-nothing (homed n ss)));
  stands = rw two (ap (is_member n) (ids-append ss ts) ∙ is_member-append (ids ss) (ids ts) n ∙ rw none.not_id (or-false (is_member n (ids ss))));
  stays = rw two (staying-append n ss ts ∙ rw (not_staying n ts none.not_id) (or-false (staying n ss)));
}

-- the node is in the back part alone
pub alike-back : (n : ℕ) (s : Step) (ss ts : List Step) → is_home s.home n ≡ false → (s.id == n) ≡ false → Absent n ss → Alike n (s ∷ ss ++ ts) ts
alike-back n s ss ts one two none = record {
  homes = rw one (homed-append n ss ts ∙ rw none.not_home refl);
  stands = rw two (ap (is_member n) (ids-append ss ts) ∙ is_member-append (ids ss) (ids ts) n ∙ rw none.not_id refl);
  stays = rw two (staying-append n ss ts ∙ rw (not_staying n ss none.not_id) refl);
}

-- all numbers of the list are the forest's
abbrev pub AreInside : Forest → List ℕ → Type 0
AreInside forest ns = (m : ℕ) → is_member m ns ≡ true → m < length forest.content

-- the trees of a list that begins with n
pub record Parts (forest : Forest) (n : ℕ) (ns : List ℕ) (r : ℕ) (k l : Trees) : Type 0 where
  pub root : r ≡ n
  pub children : k ≡ trees forest (children_of forest n)
  pub later : l ≡ trees forest ns

pub parts : (forest : Forest) (n : ℕ) (ns : List ℕ) (r : ℕ) (c k l : Trees) → AreTrees forest → AreInside forest (n ∷ ns) → Tree r c k l ≡ trees forest (n ∷ ns) → Parts forest n ns r k l
parts forest n ns r c k l are known e =
    let same : Tree r c k l ≡ Tree n (trees forest (contents_list forest n)) (trees forest (children_of forest n)) (trees forest ns) = e ∙ are.a_tree n ns known in
    record { root = cc; children = cc; later = cc }

pub inside_rest : (forest : Forest) (n : ℕ) (ns : List ℕ) → AreInside forest (n ∷ ns) → AreInside forest ns
inside_rest forest n ns known = λ m s. known m (or_right (n == m) (is_member m ns) s)

pub no_parts : (forest : Forest) (n : ℕ) (ns : List ℕ) → AreTrees forest → AreInside forest (n ∷ ns) → NoTrees ≡ trees forest (n ∷ ns) → ⊥
no_parts forest n ns are known e = let no = e ∙ are.a_tree n ns known in cc

pub no_trees : (forest : Forest) (r : ℕ) (c k l : Trees) → AreTrees forest → Tree r c k l ≡ trees forest [] → ⊥
no_trees forest r c k l are e = let no = e ∙ are.no_trees in cc

-- the roots are in the walk
pub root_walked : (forest : Forest) (t : Trees) (ns : List ℕ) (n : ℕ) → AreTrees forest → AreInside forest ns → t ≡ trees forest ns → is_member n ns ≡ true → is_member n (walk t) ≡ true
root_walked forest t [] n are known e s = absurd (true≢false (sym s))
root_walked forest NoTrees (m ∷ ns) n are known e s = absurd (no_parts forest m ns are known e)
root_walked forest (Tree r c k l) (m ∷ ns) n are known e s =
    let p = parts forest m ns r c k l are known e in
    elim (cases_Bool (m == n)) [
      | inl t ↦ or_left (r == n) _ (ap (λ i. i == n) p.root ∙ t)
      | inr f ↦ or_right (r == n) _ (in_back (walk k) (walk l) n (root_walked forest l ns n are (inside_rest forest m ns known) p.later (rw f at s)))
    ]

-- each root has a step
pub root_planned : (allow : Lists) (forest : Forest) (t : Trees) (ns : List ℕ) (h n : ℕ) → AreTrees forest → AreInside forest ns → t ≡ trees forest ns → is_member n ns ≡ true → is_member n (ids (planned allow forest h t)) ≡ true
root_planned allow forest t [] h n are known e s = absurd (true≢false (sym s))
root_planned allow forest NoTrees (m ∷ ns) h n are known e s = absurd (no_parts forest m ns are known e)
root_planned allow forest (Tree r c k l) (m ∷ ns) h n are known e s =
    let p = parts forest m ns r c k l are known e in
    let under = steps_under (fate_at allow forest r) (planned allow forest r k) (planned allow forest h k) in
    elim (cases_Bool (m == n)) [
      | inl t ↦ or_left (r == n) _ (ap (λ i. i == n) p.root ∙ t)
      | inr f ↦ or_right (r == n) _ (ap (is_member n) (ids-append under (planned allow forest h l)) ∙ in_back (ids under) _ n
          (root_planned allow forest l ns h n are (inside_rest forest m ns known) p.later (rw f at s)))
    ]
