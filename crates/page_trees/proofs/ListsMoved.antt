-- Lists of children after a node was put among them: how the forest and the definition's store say it.
use Rattle.std.proofs.Common.{◌≡◌, ℕ, suc, zero, ◌<◌, ◌+◌, true, false, List, [], ◌∷◌, ◌++◌, refl, sym, ap, ◌∙◌, Option, Some, None, arith, inl, inr}
use Rattle.std.specs.Prelude.{get_or, nat_eq, ◌||◌, if◌then◌else◌}
use Rattle.std.specs.Option.{option_or}
use Rattle.std.proofs.lemmas.Bool.{cases_Bool, eq-eqb, ne_eqb, or_parts}
use Rattle.standard_trees.specs.TreeStore.{before_of, last_of, placed_before}
use Rattle.dom_links.specs.Contents.{changed_at as changed}
use Rattle.dom_links.specs.Lists.{IsDistinct, before, is_member, last, map_from, put_before}
use Rattle.dom_links.specs.Moves.{children_with}
use Rattle.dom_links.specs.declared.gap.InsertionPoint.TheVariants.{Before as before_node, EndOf as end_of}
use Rattle.dom_links.proofs.forest.Neighbours.{around, before_here, last-cons, last-cons_cons}

-- ---- at the end

end_passed : (x t i : ℕ) (ls : List (List ℕ)) → t < i → map_from i (children_with (end_of t) (x ∷ [])) ls ≡ ls
end_passed x t i [] h = refl
end_passed x t i (ns ∷ ls) h =
    ap (λ b. (if b then ns ++ x ∷ [] else ns) ∷ map_from (i + 1) (children_with (end_of t) (x ∷ [])) ls) (ne_eqb i t (λ e. absurd (omega (arith, h, e))))
    ∙ ap (λ rest. ns ∷ rest) (end_passed x t (i + 1) ls (omega (arith, h)))

end_from : (x t i p : ℕ) (ls : List (List ℕ)) → t ≡ i + p → map_from i (children_with (end_of t) (x ∷ [])) ls ≡ changed p (λ ns. ns ++ x ∷ []) ls
end_from x t i p [] e = refl
end_from x t i zero (ns ∷ ls) e =
    ap (λ b. (if b then ns ++ x ∷ [] else ns) ∷ map_from (i + 1) (children_with (end_of t) (x ∷ [])) ls) (eq-eqb i t (omega (arith, e)))
    ∙ ap (λ rest. (ns ++ x ∷ []) ∷ rest) (end_passed x t (i + 1) ls (omega (arith, e)))
end_from x t i (suc p) (ns ∷ ls) e =
    ap (λ b. (if b then ns ++ x ∷ [] else ns) ∷ map_from (i + 1) (children_with (end_of t) (x ∷ [])) ls) (ne_eqb i t (λ same. absurd (omega (arith, e, same))))
    ∙ ap (λ rest. ns ∷ rest) (end_from x t (i + 1) p ls (omega (arith, e)))

pub put_last : (x p : ℕ) (ls : List (List ℕ)) → map_from 0 (children_with (end_of p) (x ∷ [])) ls ≡ changed p (λ ns. ns ++ x ∷ []) ls
put_last x p ls = end_from x p 0 p ls (omega arith)

-- ---- before a child

pub not_there : (x m : ℕ) (ns : List ℕ) → is_member m ns ≡ false → put_before m (x ∷ []) ns ≡ ns
not_there x m [] out = refl
not_there x m (n ∷ ns) out =
    let parts = or_parts (nat_eq n m) (is_member m ns) out in
    ap (λ b. if b then x ∷ n ∷ ns else n ∷ put_before m (x ∷ []) ns) parts.0 ∙ ap (λ rest. n ∷ rest) (not_there x m ns parts.1)

pub there : (x m : ℕ) (ns : List ℕ) → is_member m ns ≡ true → put_before m (x ∷ []) ns ≡ placed_before x m ns
there x m [] at = cc
there x m (n ∷ ns) at = elim (cases_Bool (nat_eq n m)) [
  | inl t ↦ ap (λ b. if b then x ∷ n ∷ ns else n ∷ put_before m (x ∷ []) ns) t
      ∙ sym (ap (λ b. elim b [ true ↦ x ∷ n ∷ ns | false ↦ n ∷ placed_before x m ns ]) t)
  | inr f ↦ (let rest : is_member m ns ≡ true = sym (ap (λ b. b || is_member m ns) f) ∙ at in
      ap (λ b. if b then x ∷ n ∷ ns else n ∷ put_before m (x ∷ []) ns) f ∙ ap (λ others. n ∷ others) (there x m ns rest)
      ∙ sym (ap (λ b. elim b [ true ↦ x ∷ n ∷ ns | false ↦ n ∷ placed_before x m ns ]) f))
]

-- the number stands in the list of p, and in no other
pub record StandsIn (m p : ℕ) (ls : List (List ℕ)) : Type 0 where
  pub here : is_member m (get_or ls p []) ≡ true
  pub alone : (q : ℕ) → is_member m (get_or ls q []) ≡ true → q ≡ p

-- in none
abbrev pub StandsNowhere : ℕ → List (List ℕ) → Type 0
StandsNowhere m ls = (q : ℕ) → is_member m (get_or ls q []) ≡ true → ⊥

nowhere : (x m i : ℕ) (ls : List (List ℕ)) → StandsNowhere m ls → map_from i (children_with (before_node m) (x ∷ [])) ls ≡ ls
nowhere x m i [] none = refl
nowhere x m i (ns ∷ ls) none =
    let out : is_member m ns ≡ false = elim (cases_Bool (is_member m ns)) [ inl t ↦ absurd (none 0 t) | inr f ↦ f ] in
    ap (λ one. one ∷ map_from (i + 1) (children_with (before_node m) (x ∷ [])) ls) (not_there x m ns out)
    ∙ ap (λ rest. ns ∷ rest) (nowhere x m (i + 1) ls (λ q h. none (suc q) h))

before_from : (x m p i : ℕ) (ls : List (List ℕ)) → StandsIn m p ls → map_from i (children_with (before_node m) (x ∷ [])) ls ≡ changed p (placed_before x m) ls
before_from x m p i [] s = refl
before_from x m zero i (ns ∷ ls) s =
    ap (λ one. one ∷ map_from (i + 1) (children_with (before_node m) (x ∷ [])) ls) (there x m ns s.here)
    ∙ ap (λ rest. placed_before x m ns ∷ rest) (nowhere x m (i + 1) ls (λ q h. (let e : suc q ≡ 0 = s.alone (suc q) h in absurd (omega (arith, e)))))
before_from x m (suc p) i (ns ∷ ls) s =
    let out : is_member m ns ≡ false = elim (cases_Bool (is_member m ns)) [
      | inl t ↦ (let e : 0 ≡ suc p = s.alone 0 t in absurd (omega (arith, e)))
      | inr f ↦ f
    ] in
    ap (λ one. one ∷ map_from (i + 1) (children_with (before_node m) (x ∷ [])) ls) (not_there x m ns out)
    ∙ ap (λ rest. ns ∷ rest) (before_from x m p (i + 1) ls (record { here = s.here; alone = λ q h. (let e : suc q ≡ suc p = s.alone (suc q) h in omega (arith, e)) }))

pub put_beside : (x m p : ℕ) (ls : List (List ℕ)) → StandsIn m p ls → map_from 0 (children_with (before_node m) (x ∷ [])) ls ≡ changed p (placed_before x m) ls
put_beside x m p ls s = before_from x m p 0 ls s

-- ---- the node before a place

pub last_is : (ns : List ℕ) → last_of ns ≡ last ns
last_is [] = refl
last_is (n ∷ []) = refl
last_is (n ∷ m ∷ ns) = last_is (m ∷ ns) ∙ sym (last-cons_cons n m ns)

or_seen : (o seen : Option ℕ) (n : ℕ) → option_or o (Some n) ≡ option_or (option_or o (Some n)) seen
or_seen None seen n = refl
or_seen (Some m) seen n = refl

before_split : (m : ℕ) (seen : Option ℕ) (front back : List ℕ) → is_member m front ≡ false → before_of m seen (front ++ m ∷ back) ≡ option_or (last front) seen
before_split m seen [] back out = ap (λ b. elim b [ true ↦ seen | false ↦ before_of m (Some m) back ]) (eq-eqb m m refl)
before_split m seen (n ∷ front) back out =
    let parts = or_parts (nat_eq n m) (is_member m front) out in
    ap (λ b. elim b [ true ↦ seen | false ↦ before_of m (Some n) (front ++ m ∷ back) ]) parts.0
    ∙ before_split m (Some n) front back parts.1 ∙ or_seen (last front) seen n ∙ ap (λ o. option_or o seen) (sym (last-cons n front))

or_none : (o : Option ℕ) → option_or o None ≡ o
or_none None = refl
or_none (Some n) = refl

pub before_is : (m : ℕ) (ns : List ℕ) → IsDistinct ns → is_member m ns ≡ true → before_of m None ns ≡ before ns m
before_is m ns once at =
    let parts = around m ns once at in
    ap (before_of m None) parts.is ∙ before_split m None parts.front parts.back parts.not_front ∙ or_none (last parts.front)
    ∙ sym (ap (λ (ks : List ℕ). before ks m) parts.is ∙ before_here parts.front parts.back m parts.not_back)
