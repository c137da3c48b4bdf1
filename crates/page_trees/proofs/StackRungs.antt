-- An element of the stack of open elements is removed, or a copy takes its place.
use Rattle.std.proofs.Common.{◌≡◌, ℕ, ◌+◌, ◌||◌, Bool, true, false, List, [], ◌∷◌, ◌++◌, drop, map, take, reverse, refl, sym, ap, ◌∙◌, length, Some, subst, suc, arith}
use Rattle.std.specs.Prelude.{slice_get}
use Rattle.std.specs.List.{list_any}
use Rattle.std.proofs.lemmas.List.{append_assoc, reverse-append}
use Rattle.standard_trees.specs.Formatting.{replaced_node}
use Rattle.standard_trees.specs.GrowingTree.{GrowingTree, unstacked, with_stack}
use Rattle.standard_trees.specs.TreeStore.{Node, node_at, without}
use Rattle.page_trees.specs.Adopting.{ids_of, last_in}
use Rattle.page_trees.specs.NameNumbers.{AreNumbered}
use Rattle.page_trees.specs.Stands.{AllStand, Builds, EntryStands, StandsFor}
use Rattle.page_trees.specs.TreeState.{TreeState}
use Rattle.page_trees.specs.declared.formatting.Entry.{Entry}
use Rattle.page_trees.specs.declared.stack.Open.{Open}
use Rattle.page_trees.proofs.BuiltStacks.{built_on}
use Rattle.page_trees.proofs.CopiedElements.{formatting_numbered}
use Rattle.page_trees.proofs.EntryPlaces.{inserted_at, removed_at}
use Rattle.page_trees.proofs.NumberedNames.{inserted_numbered, removed_numbered}
use Rattle.page_trees.proofs.SplitLists.{once_there, replaced_one, without_one}
use Rattle.page_trees.proofs.TakenOut.{opens_once}
use Rattle.page_trees.proofs.WrappedElements.{ids_joined}

-- ---- around one element

pub ids_around : (low : List Open) (x : Open) (high : List Open) → ids_of (low ++ x ∷ high) ≡ ids_of high ++ x.id ∷ ids_of low
ids_around low x high =
    ids_joined low (x ∷ high) ∙ ap (λ (ns : List ℕ). ns ++ ids_of low) (ids_joined (x ∷ []) high) ∙ append_assoc (ids_of high) (x.id ∷ []) (ids_of low)

pub turned_around : (low : List Open) (x : Open) (high : List Open) → reverse (low ++ x ∷ high) ≡ reverse high ++ x ∷ reverse low
turned_around low x high =
    reverse-append low (x ∷ high) ∙ ap (λ (os : List Open). os ++ reverse low) (reverse-append (x ∷ []) high) ∙ append_assoc (reverse high) (x ∷ []) (reverse low)

pub stand_apart : (nodes : List Node) (xs ys : List Open) → AllStand nodes (xs ++ ys) → AllStand nodes xs × AllStand nodes ys
stand_apart nodes [] ys all = (tt, all)
stand_apart nodes (x ∷ xs) ys all = (let more = stand_apart nodes xs ys all.1 in ((all.0, more.0), more.1))

pub stand_joined : (nodes : List Node) (xs ys : List Open) → AllStand nodes xs → AllStand nodes ys → AllStand nodes (xs ++ ys)
stand_joined nodes [] ys all more = more
stand_joined nodes (x ∷ xs) ys all more = (all.0, stand_joined nodes xs ys all.1 more)

pub one_stands : (nodes : List Node) (low : List Open) (x : Open) (high : List Open) → AllStand nodes (reverse (low ++ x ∷ high)) → StandsFor nodes x
one_stands nodes low x high all = (stand_apart nodes (reverse high) (x ∷ reverse low) (subst (AllStand nodes) (turned_around low x high) all)).1.0

pub others_stand : (nodes : List Node) (low : List Open) (x : Open) (high : List Open) → AllStand nodes (reverse (low ++ x ∷ high)) → AllStand nodes (reverse (low ++ high))
others_stand nodes low x high all =
    let parts = stand_apart nodes (reverse high) (x ∷ reverse low) (subst (AllStand nodes) (turned_around low x high) all) in
    subst (AllStand nodes) (sym (reverse-append low high)) (stand_joined nodes (reverse high) (reverse low) parts.0 parts.1.1)

pub more_stand : (nodes : List Node) (low : List Open) (x : Open) (high : List Open) → AllStand nodes (reverse (low ++ high)) → StandsFor nodes x → AllStand nodes (reverse (low ++ x ∷ high))
more_stand nodes low x high all stands =
    let parts = stand_apart nodes (reverse high) (reverse low) (subst (AllStand nodes) (reverse-append low high) all) in
    subst (AllStand nodes) (sym (turned_around low x high)) (stand_joined nodes (reverse high) (x ∷ reverse low) parts.0 (stands, parts.1))

-- ---- the state

pub stacked_around : (s : TreeState) (t : GrowingTree) (low : List Open) (x : Open) (high : List Open) → Builds s t → s.stack ≡ low ++ x ∷ high → t.stack ≡ ids_of high ++ x.id ∷ ids_of low
stacked_around s t low x high b e = b.stack.ids ∙ ap ids_of e ∙ ids_around low x high

pub left_numbered : (s : TreeState) (t : GrowingTree) (low : List Open) (x : Open) (high : List Open) → Builds s t → s.stack ≡ low ++ x ∷ high → AreNumbered s.numbers t.nodes (low ++ high)
left_numbered s t low x high b e =
    subst (AreNumbered s.numbers t.nodes) (removed_at low x high)
    (removed_numbered s.numbers t.nodes (low ++ x ∷ high) (length low) (subst (AreNumbered s.numbers t.nodes) e b.numbered))

pub rung_removed : (s : TreeState) (t : GrowingTree) (low : List Open) (x : Open) (high : List Open) → Builds s t → s.stack ≡ low ++ x ∷ high → opens_once t.stack ≡ true →
    Builds (record s { stack = low ++ high }) (unstacked x.id t)
rung_removed s t low x high b e once =
    let split = stacked_around s t low x high b e in
    let alone = once_there x.id (ids_of high) (ids_of low) (ap opens_once (sym split) ∙ once) in
    built_on s t (low ++ high) _ b
    (record {
      ids = ap (λ (ns : List ℕ). without x.id ns) split ∙ without_one x.id (ids_of high) (ids_of low) alone.before alone.behind ∙ sym (ids_joined low high);
      nodes = others_stand t.nodes low x high (subst (λ (os : List Open). AllStand t.nodes (reverse os)) e b.stack.nodes);
    })
    (left_numbered s t low x high b e)

pub rung_set : (s : TreeState) (t : GrowingTree) (low : List Open) (x y : Open) (high : List Open) → Builds s t → s.stack ≡ low ++ x ∷ high → opens_once t.stack ≡ true →
    EntryStands t.nodes (Entry.Element y) → Builds (record s { stack = low ++ y ∷ high }) (with_stack t (map (replaced_node x.id y.id) t.stack))
rung_set s t low x y high b e once stands =
    let split = stacked_around s t low x high b e in
    let alone = once_there x.id (ids_of high) (ids_of low) (ap opens_once (sym split) ∙ once) in
    let all = subst (λ (os : List Open). AllStand t.nodes (reverse os)) e b.stack.nodes in
    built_on s t (low ++ y ∷ high) (map (replaced_node x.id y.id) t.stack) b
    (record {
      ids = ap (λ (ns : List ℕ). map (replaced_node x.id y.id) ns) split ∙ replaced_one x.id y.id (ids_of high) (ids_of low) alone.before alone.behind ∙ sym (ids_around low y high);
      nodes = more_stand t.nodes low y high (others_stand t.nodes low x high all) stands.0;
    })
    (subst (AreNumbered s.numbers t.nodes) (inserted_at low y high)
    (inserted_numbered s.numbers t.nodes (low ++ high) (length low) y (formatting_numbered s.numbers y (node_at t.nodes y.id).kind stands.1) (left_numbered s t low x high b e)))

-- ---- the rungs

-- the last of those that the loop has not come to
pub regrouped : (low : List Open) (x : Open) (mid : List Open) (node : Open) (rest : List Open) → (low ++ x ∷ (mid ++ node ∷ [])) ++ rest ≡ (low ++ x ∷ mid) ++ node ∷ rest
regrouped low x mid node rest =
    ap (λ (os : List Open). os ++ rest) (sym (append_assoc low (x ∷ mid) (node ∷ []))) ∙ append_assoc (low ++ x ∷ mid) (node ∷ []) rest

pub get_at : {X : Type 0} (low : List X) (x : X) (rest : List X) → slice_get (low ++ x ∷ rest) (length low) ≡ Some x
get_at [] x rest = refl
get_at (y ∷ low) x rest = get_at low x rest

pub get_next : {X : Type 0} (low : List X) (x y : X) (rest : List X) → slice_get (low ++ x ∷ y ∷ rest) (length low + 1) ≡ Some y
get_next [] x y rest = refl
get_next {X} (z ∷ low) x y rest = ap (λ (k : ℕ). slice_get (z ∷ low ++ x ∷ y ∷ rest) k) (number (length low)) ∙ get_next low x y rest
  where
    number : (n : ℕ) → suc n + 1 ≡ suc (n + 1)
    number n = omega arith

-- the first of the elements above
pub above_is : (copies : List Open) (block : Open) (up : List Open) → (rest : List Open) × (copies ++ block ∷ up ≡ last_in copies block ∷ rest)
above_is [] block up = (up, refl)
above_is (copy ∷ copies) block up = (copies ++ block ∷ up, refl)

pub taken_front : (xs ys : List Open) → take (length xs) (xs ++ ys) ≡ xs
taken_front [] ys = refl
taken_front (x ∷ xs) ys = ap (λ (os : List Open). x ∷ os) (taken_front xs ys)

pub dropped_front : (xs ys : List Open) → drop (length xs) (xs ++ ys) ≡ ys
dropped_front [] ys = refl
dropped_front (x ∷ xs) ys = dropped_front xs ys

pub any_in : (p : Open → Bool) (xs ys : List Open) → list_any p (xs ++ ys) ≡ (list_any p xs || list_any p ys)
any_in p [] ys = refl
any_in p (x ∷ xs) ys = ap (λ b. p x || b) (any_in p xs ys) ∙ regroup (p x) (list_any p xs) (list_any p ys)
  where
    regroup : (a b c : Bool) → (a || (b || c)) ≡ ((a || b) || c)
    regroup true b c = refl
    regroup false b c = refl
