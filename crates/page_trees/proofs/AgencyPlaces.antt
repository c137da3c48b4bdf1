-- The adoption agency's place for the last node: on the stack from the common ancestor on it is the one on the whole stack, since the
-- elements that were opened later are neither templates nor tables.
use Rattle.std.proofs.Common.{◌≡◌, ℕ, Bool, true, false, List, [], ◌∷◌, ◌++◌, refl, sym, ap, ◌∙◌, Option, Some, None}
use Rattle.std.specs.Prelude.{codes, ◌&&◌}
use Rattle.standard_trees.specs.GrowingTree.{GrowingTree, foster_place, in_contents, is_one, place, place_in, with_stack}
use Rattle.standard_trees.specs.NameLists.{fostering_names}
use Rattle.standard_trees.specs.TreeStore.{Before, EndOf, Place, parent_of}
use Rattle.page_trees.specs.Adopting.{ArePassed}

-- the place, by what is known of the first element
abbrev step : Bool → Bool → Option ℕ → ℕ → ℕ → Place → Place
step true b r n m rest = EndOf n
step false true (Some p) n m rest = Before p n
step false true None n m rest = EndOf m
step false false r n m rest = rest

as_step : (a b : Bool) (r : Option ℕ) (n m : ℕ) (rest : Place) →
    (elim a [ true ↦ EndOf n | false ↦ elim b [ true ↦ elim r [ Some p ↦ Before p n | None ↦ EndOf m ] | false ↦ rest ] ]) ≡ step a b r n m rest
as_step true b r n m rest = refl
as_step false true (Some p) n m rest = refl
as_step false true None n m rest = refl
as_step false false r n m rest = refl

one_step : (t : GrowingTree) (n m : ℕ) (ns : List ℕ) →
    foster_place t (n ∷ m ∷ ns) ≡ step (is_one t (codes "template" ∷ []) n) (is_one t (codes "table" ∷ []) n) (parent_of t.nodes n) n m (foster_place t (m ∷ ns))
one_step t n m ns = as_step (is_one t (codes "template" ∷ []) n) (is_one t (codes "table" ∷ []) n) (parent_of t.nodes n) n m (foster_place t (m ∷ ns))

one_passed : (t : GrowingTree) (n m : ℕ) (ns : List ℕ) → is_one t (codes "template" ∷ []) n ≡ false → is_one t (codes "table" ∷ []) n ≡ false →
    foster_place t (n ∷ m ∷ ns) ≡ foster_place t (m ∷ ns)
one_passed t n m ns template table =
    one_step t n m ns ∙ ap (λ a. step a (is_one t (codes "table" ∷ []) n) (parent_of t.nodes n) n m (foster_place t (m ∷ ns))) template
    ∙ ap (λ b. step false b (parent_of t.nodes n) n m (foster_place t (m ∷ ns))) table

pub passed_place : (t : GrowingTree) (front : List ℕ) (n : ℕ) (back : List ℕ) → ArePassed t front → foster_place t (front ++ n ∷ back) ≡ foster_place t (n ∷ back)
passed_place t [] n back passed = refl
passed_place t (m ∷ []) n back passed = one_passed t m n back passed.0 passed.1
passed_place t (m ∷ k ∷ front) n back passed = one_passed t m k (front ++ n ∷ back) passed.0 passed.1 ∙ passed_place t (k ∷ front) n back passed.2

-- it depends on the nodes alone
same_nodes_place : (t : GrowingTree) (stack ns : List ℕ) → foster_place (with_stack t stack) ns ≡ foster_place t ns
same_nodes_place t stack [] = refl
same_nodes_place t stack (n ∷ []) = refl
same_nodes_place t stack (n ∷ m ∷ ns) =
    one_step (with_stack t stack) n m ns
    ∙ ap (step (is_one t (codes "template" ∷ []) n) (is_one t (codes "table" ∷ []) n) (parent_of t.nodes n) n m) (same_nodes_place t stack (m ∷ ns)) ∙ sym (one_step t n m ns)

pub agency_place : (t : GrowingTree) (front : List ℕ) (n : ℕ) (back : List ℕ) → t.stack ≡ front ++ n ∷ back → ArePassed t front → place (with_stack t (n ∷ back)) ≡ place_in t n
agency_place t front n back is passed =
    let fosters : Bool = t.fostering && is_one t fostering_names n in
    let same : foster_place (with_stack t (n ∷ back)) (n ∷ back) ≡ foster_place t t.stack =
    same_nodes_place t (n ∷ back) (n ∷ back) ∙ sym (passed_place t front n back passed) ∙ ap (foster_place t) (sym is) in
    ap (λ (at : Place). in_contents t (elim fosters [ true ↦ at | false ↦ EndOf n ])) same
