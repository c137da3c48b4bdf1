-- An element is closed with all that were opened after it: what the searches of the code find, and what the definition does.
use Rattle.std.proofs.Common.{◌≡◌, ◌+◌, ◌-◌, ℕ, Bool, true, false, ◌&&◌, ◌||◌, not, List, [], ◌∷◌, ◌++◌, map, reverse, length, take, nat_eq, refl, sym, ap, subst, ◌∙◌, arith, true≢false, if◌then◌else◌, inl, inr}
use Rattle.std.specs.Prelude.{None, Option, Some, slice_get}
use Rattle.std.specs.List.{list_all}
use Rattle.std.specs.Option.{option_map_or}
use Rattle.std.specs.Str.{bytes_eq}
use Rattle.std.proofs.lemmas.Bool.{cases_Bool, eq-eqb, eqb-true}
use Rattle.std.proofs.lemmas.List.{take-append-le, take_all}
use Rattle.std.proofs.lemmas.Slice.Eq.{bytes_eq-Decides}
use Rattle.standard_trees.specs.Formatting.{any_other_end, closed_item, closed_other, ends_other, open_item}
use Rattle.standard_trees.specs.GrowingTree.{GrowingTree, beyond, current, ends_scope as ends_scope_of, implied_of, in_scope, is_among as is_among_of}
use Rattle.standard_trees.specs.GrowingTree.{is_named as is_of_kind, is_one as is_one_of, key, past, popped_until, with_stack}
use Rattle.standard_trees.specs.NameLists.{crossed_by_items, headings, implied, scope, special}
use Rattle.standard_trees.specs.RuleWords.{Scope as DefaultScope}
use Rattle.standard_trees.specs.TreeStore.{Kind}
use Rattle.page_trees.specs.Closing.{IsFoundAt, IsPlaceFrom, closed_before, ends_items_node, is_special_node, item_names, item_texts}
use Rattle.page_trees.specs.Names.{html_rows, rare_rows, text_of}
use Rattle.page_trees.specs.Popping.{before_last}
use Rattle.page_trees.specs.Scopes.{ends_items, is_among, is_name, is_named, last_place}
use Rattle.page_trees.specs.Sets.{ends_scope, is_a_heading, is_crossed, is_one, is_special_element}
use Rattle.page_trees.specs.Stands.{Builds, IsCurrent, IsStackOf, StandsFor}
use Rattle.page_trees.specs.TreeState.{TreeState}
use Rattle.page_trees.specs.declared.name.Name.{Name}
use Rattle.page_trees.specs.declared.stack.Open.{Open}
use Rattle.page_trees.proofs.BuiltStacks.{built_front, current_node, implied_first, popped_through}
use Rattle.page_trees.proofs.NamesAgree.{both}
use Rattle.page_trees.proofs.PoppingLemmas.{before_last_push}
use Rattle.page_trees.proofs.ScopeLemmas.{by_ends, last_place_le, last_place_push, last_place_same, scope_search}
use Rattle.page_trees.proofs.StandingNames.{are_known, kind_agrees, named_agrees, named_is_one, one_agrees, searched}

-- ---- what a search finds

pub found_at : (wanted ends : Open → Bool) (all : List Open) (end top : ℕ) (r : Option ℕ) → top ≡ last_place wanted all → end ≡ last_place ends all →
    IsPlaceFrom end top r → IsFoundAt wanted ends all r
found_at wanted ends all end top None e f is = (scope_search wanted ends all).missed (λ lt le. is (omega (arith, lt, e)) (omega (arith, le, e, f)))
found_at wanted ends all end top (Some place) e f is =
    ((scope_search wanted ends all).found (omega (arith, is.0, e)) (omega (arith, is.1, e, f)), is.0 ∙ e)

or_twice : (x y : Bool) → ((x || false) || y) ≡ (x || y)
or_twice true y = refl
or_twice false y = refl

abbrev are_no_others : List Name → Bool
are_no_others names = list_all (λ n. not (is_name n Name.Other)) names

not_true : (b : Bool) → not b ≡ true → b ≡ false
not_true true e = sym e
not_true false e = refl

names_are : (names : List Name) → are_no_others names ≡ true → (o : Open) → is_among names o ≡ is_one (map text_of names) o
names_are [] h o = refl
names_are (n ∷ ns) h o =
    let parts = both (not (is_name n Name.Other)) (are_no_others ns) h in
    ap (λ b. b || is_among ns o) (named_is_one n (not_true (is_name n Name.Other) parts.0) o) ∙ ap (λ b. is_one (text_of n ∷ []) o || b) (names_are ns parts.1 o)
    ∙ or_twice _ (is_one (map text_of ns) o)

pub heading_place : (all : List Open) (top : ℕ) → top ≡ last_place (is_among (Name.H1 ∷ Name.H2 ∷ Name.H3 ∷ Name.H4 ∷ Name.H5 ∷ Name.H6 ∷ [])) all → top ≡ last_place is_a_heading all
heading_place all top e =
    e ∙ last_place_same (is_among (Name.H1 ∷ Name.H2 ∷ Name.H3 ∷ Name.H4 ∷ Name.H5 ∷ Name.H6 ∷ [])) is_a_heading
    (names_are (Name.H1 ∷ Name.H2 ∷ Name.H3 ∷ Name.H4 ∷ Name.H5 ∷ Name.H6 ∷ []) refl) all

-- ---- the stack is cut there

take_step : {X : Type 0} (p : X → Bool) (ys : List X) (y : X) (n : ℕ) (b : Bool) → ((m : ℕ) → m + 1 ≡ last_place p ys → take m ys ≡ before_last p ys) →
    n + 1 ≡ (if b then length ys + 1 else last_place p ys) → take n (ys ++ y ∷ []) ≡ (if b then ys else before_last p ys)
take_step p ys y n true ih e =
    let here : n ≡ length ys = omega (arith, e) in
    ap (λ k. take k (ys ++ y ∷ [])) here ∙ take-append-le (length ys) ys (y ∷ []) (omega arith) ∙ take_all (length ys) ys (omega arith)
take_step p ys y n false ih e = take-append-le n ys (y ∷ []) (omega (arith, e, last_place_le p ys)) ∙ ih n e

take_before : {X : Type 0} (p : X → Bool) (xs : List X) (n : ℕ) → n + 1 ≡ last_place p xs → take n xs ≡ before_last p xs
take_before p = by_ends (λ xs. (n : ℕ) → n + 1 ≡ last_place p xs → take n xs ≡ before_last p xs) (λ n e. absurd (omega (arith, e)))
    (λ ys y ih n e. take_step p ys y n (p y) ih (e ∙ last_place_push p ys y) ∙ sym (before_last_push p ys y))

pub cut_at : (t : GrowingTree) (p : Open → Bool) (q : ℕ → Bool) → ((o : Open) → StandsFor t.nodes o → p o ≡ q o.id) → (all : List Open) (place : ℕ) → place + 1 ≡ last_place p all →
    IsStackOf t all → IsStackOf (with_stack t (past q t.stack)) (take place all)
cut_at t p q same all place e s = subst (IsStackOf (with_stack t (past q t.stack))) (sym (take_before p all place e)) (popped_through t p q same all s)

-- a search of the code and one of the definition, which go for the same elements of a tree
pub record AgreeAt (t : GrowingTree) (wanted ends : Open → Bool) (stop : GrowingTree → ℕ → Bool) (names : List (List ℕ)) : Type 0 where
  pub sought : (o : Open) → StandsFor t.nodes o → wanted o ≡ is_one_of t names o.id
  pub ended : (o : Open) → StandsFor t.nodes o → ends o ≡ stop t o.id

-- this holds in every tree
pub record Agree (wanted ends : Open → Bool) (stop : GrowingTree → ℕ → Bool) (names : List (List ℕ)) : Type 0 where
  pub sought : (t : GrowingTree) (o : Open) → StandsFor t.nodes o → wanted o ≡ is_one_of t names o.id
  pub ended : (t : GrowingTree) (o : Open) → StandsFor t.nodes o → ends o ≡ stop t o.id

agree_at : (wanted ends : Open → Bool) (stop : GrowingTree → ℕ → Bool) (names : List (List ℕ)) → Agree wanted ends stop names → (t : GrowingTree) → AgreeAt t wanted ends stop names
agree_at wanted ends stop names agree t = record { sought = agree.sought t; ended = agree.ended t }

scope_is : (wanted ends : Open → Bool) (stop : GrowingTree → ℕ → Bool) (names : List (List ℕ)) (t : GrowingTree) → AgreeAt t wanted ends stop names → (all : List Open) → IsStackOf t all →
    in_scope wanted ends (reverse all) ≡ in_scope (is_one_of t names) (stop t) t.stack
scope_is wanted ends stop names t agree all s =
    searched wanted ends (is_one_of t names) (stop t) t agree.sought agree.ended (reverse all) s.nodes ∙ ap (in_scope (is_one_of t names) (stop t)) (sym s.ids)

pub closed_there : (wanted ends : Open → Bool) (stop : GrowingTree → ℕ → Bool) (names : List (List ℕ)) (view old new : TreeState) (t : GrowingTree) → AgreeAt t wanted ends stop names → (place : ℕ) → view ≡ old → Builds old t →
    IsFoundAt wanted ends view.stack (Some place) → new ≡ record old { stack = take place old.stack } → Builds new (closed_before stop names t)
closed_there wanted ends stop names view old new t agree place v b found e =
    let here : IsFoundAt wanted ends old.stack (Some place) = subst (λ (s : TreeState). IsFoundAt wanted ends s.stack (Some place)) v found in
    subst (Builds new) (sym (ap (λ x. elim x [ true ↦ popped_until names t | false ↦ t ]) (sym (scope_is wanted ends stop names t agree old.stack b.stack) ∙ here.0)))
    (built_front old new t place (past (is_one_of t names) t.stack) e b (cut_at t wanted (is_one_of t names) agree.sought old.stack place here.1 b.stack))

pub nothing_there : (wanted ends : Open → Bool) (stop : GrowingTree → ℕ → Bool) (names : List (List ℕ)) (view old : TreeState) (t : GrowingTree) → AgreeAt t wanted ends stop names → view ≡ old → Builds old t →
    IsFoundAt wanted ends view.stack None → Builds old (closed_before stop names t)
nothing_there wanted ends stop names view old t agree v b found =
    let here : IsFoundAt wanted ends old.stack None = subst (λ (s : TreeState). IsFoundAt wanted ends s.stack None) v found in
    subst (Builds old) (sym (ap (λ x. elim x [ true ↦ popped_until names t | false ↦ t ]) (sym (scope_is wanted ends stop names t agree old.stack b.stack) ∙ here))) b

pub closed_at : (wanted ends : Open → Bool) (stop : GrowingTree → ℕ → Bool) (names : List (List ℕ)) → Agree wanted ends stop names → (view old new : TreeState) (t : GrowingTree) (place : ℕ) → view ≡ old → Builds old t →
    IsFoundAt wanted ends view.stack (Some place) → new ≡ record old { stack = take place old.stack } → Builds new (closed_before stop names t)
closed_at wanted ends stop names agree view old new t place v b found e =
    closed_there wanted ends stop names view old new t (agree_at wanted ends stop names agree t) place v b found e

pub nothing_closed : (wanted ends : Open → Bool) (stop : GrowingTree → ℕ → Bool) (names : List (List ℕ)) → Agree wanted ends stop names → (view old : TreeState) (t : GrowingTree) → view ≡ old → Builds old t →
    IsFoundAt wanted ends view.stack None → Builds old (closed_before stop names t)
nothing_closed wanted ends stop names agree view old t v b found = nothing_there wanted ends stop names view old t (agree_at wanted ends stop names agree t) v b found

headings_known : are_known headings ≡ true
unfolding html_rows rare_rows
headings_known = refl

scope_known : are_known scope ≡ true
unfolding html_rows rare_rows
scope_known = refl

pub special_known : are_known special ≡ true
unfolding html_rows rare_rows
special_known = refl

crossed_known : are_known crossed_by_items ≡ true
unfolding html_rows rare_rows
crossed_known = refl

items_known : (name : Name) → are_known (item_texts name) ≡ true
unfolding html_rows rare_rows
items_known Name.Li = refl
items_known _ = refl

items_are : (name : Name) (o : Open) → is_among (item_names name) o ≡ is_one (item_texts name) o
items_are Name.Li o = names_are (Name.Li ∷ []) refl o
items_are Name.A o = names_are (Name.Dd ∷ Name.Dt ∷ []) refl o
items_are _ o = names_are (Name.Dd ∷ Name.Dt ∷ []) refl o

pub other_items : (name : Name) → (name ≡ Name.Li → ⊥) → item_names name ≡ Name.Dd ∷ Name.Dt ∷ []
other_items Name.Li other = absurd (other refl)
other_items _ other = refl

pub headings_agree : Agree is_a_heading ends_scope (λ t. ends_scope_of DefaultScope t) headings
headings_agree = record { sought = λ t o s. one_agrees headings headings_known t o s; ended = λ t o s. one_agrees scope scope_known t o s }

pub items_agree : (name : Name) → Agree (is_among (item_names name)) ends_items ends_items_node (item_texts name)
items_agree name = record {
  sought = λ t o s. items_are name o ∙ one_agrees (item_texts name) (items_known name) t o s;
  ended = λ t o s. ap (λ b. b && not (is_crossed o)) (one_agrees special special_known t o s)
      ∙ ap (λ b. is_one_of t special o.id && not b) (one_agrees crossed_by_items crossed_known t o s);
}

pub others_agree : (name : Name) → is_name name Name.Other ≡ false → Agree (is_named name) is_special_element is_special_node (text_of name ∷ [])
others_agree name known = record { sought = λ t o s. named_agrees name known t o s; ended = λ t o s. one_agrees special special_known t o s }

-- ---- the current node is a heading

no_heading : is_among_of [] headings ≡ false
no_heading = refl

current_heading : (r : Option Open) (kind : Kind) → IsCurrent r kind → option_map_or is_a_heading r false ≡ is_of_kind headings kind
current_heading None kind is = sym (ap (is_of_kind headings) is)
current_heading (Some o) kind is = kind_agrees headings headings_known o kind is

pub heading_tells : (view old : TreeState) (t : GrowingTree) → view ≡ old → Builds old t → (b : Bool) → b ≡ option_map_or is_a_heading (slice_get view.stack (length view.stack - 1)) false →
    b ≡ is_one_of t headings (current t)
heading_tells view old t e built b f = f ∙ current_heading _ _ (current_node view t (subst (λ (o : TreeState). Builds o t) (sym e) built))

-- ---- any other end tag

past_beyond : (q p : ℕ → Bool) → ((n : ℕ) → q n ≡ true → p n ≡ false) → (ns : List ℕ) → past p (beyond q ns) ≡ past p ns
past_beyond q p apart [] = refl
past_beyond q p apart (n ∷ ns) = by_test (q n) refl (past_beyond q p apart ns)
  where
    by_test : (b : Bool) → q n ≡ b → past p (beyond q ns) ≡ past p ns →
        past p (elim b [ true ↦ beyond q ns | false ↦ n ∷ ns ]) ≡ (elim (p n) [ true ↦ ns | false ↦ past p ns ])
    by_test true e others = others ∙ ap (λ d. elim d [ true ↦ ns | false ↦ past p ns ]) (sym (apart n e))
    by_test false e others = refl

-- two nodes of which one is wanted and the other is not
other_node : (w : ℕ → Bool) (n m : ℕ) → w n ≡ true → w m ≡ false → nat_eq n m ≡ false
other_node w n m wanted unwanted = elim (cases_Bool (nat_eq n m)) [
  | inl e ↦ absurd (true≢false (sym wanted ∙ ap w (eqb-true n m e) ∙ unwanted))
  | inr f ↦ f
]

abbrev EndsAt : GrowingTree → List ℕ → List ℕ → Option ℕ → Type 0
EndsAt t name ns None = in_scope (is_one_of t (name ∷ [])) (is_special_node t) ns ≡ false
EndsAt t name ns (Some n) = (in_scope (is_one_of t (name ∷ [])) (is_special_node t) ns ≡ true) × (is_one_of t (name ∷ []) n ≡ true)
    × (past (nat_eq n) ns ≡ past (is_one_of t (name ∷ [])) ns)

ends_step : (t : GrowingTree) (name : List ℕ) (n : ℕ) (ns : List ℕ) (r : Option ℕ) (x y : Bool) → is_one_of t (name ∷ []) n ≡ x → is_one_of t special n ≡ y → EndsAt t name ns r →
    EndsAt t name (n ∷ ns) (elim x [ true ↦ Some n | false ↦ elim y [ true ↦ None | false ↦ r ] ])
ends_step t name n ns r true y e f is =
    let w : ℕ → Bool = is_one_of t (name ∷ []) in (
      ap (λ b. b || (not (is_special_node t n) && in_scope w (is_special_node t) ns)) e,
      e,
      ap (λ b. elim b [ true ↦ ns | false ↦ past (nat_eq n) ns ]) (eq-eqb n n refl) ∙ ap (λ b. elim b [ true ↦ ns | false ↦ past w ns ]) (sym e),
    )
ends_step t name n ns r false true e f is =
    let w : ℕ → Bool = is_one_of t (name ∷ []) in
    ap (λ b. b || (not (is_special_node t n) && in_scope w (is_special_node t) ns)) e ∙ ap (λ b. not b && in_scope w (is_special_node t) ns) f
ends_step t name n ns None false false e f is =
    let w : ℕ → Bool = is_one_of t (name ∷ []) in
    ap (λ b. b || (not (is_special_node t n) && in_scope w (is_special_node t) ns)) e ∙ ap (λ b. not b && in_scope w (is_special_node t) ns) f ∙ is
ends_step t name n ns (Some k) false false e f is =
    let w : ℕ → Bool = is_one_of t (name ∷ []) in (
      ap (λ b. b || (not (is_special_node t n) && in_scope w (is_special_node t) ns)) e ∙ ap (λ b. not b && in_scope w (is_special_node t) ns) f ∙ is.0,
      is.1,
      ap (λ b. elim b [ true ↦ ns | false ↦ past (nat_eq k) ns ]) (other_node w k n is.1 e) ∙ is.2 ∙ ap (λ b. elim b [ true ↦ ns | false ↦ past w ns ]) (sym e),
    )

ends_at : (t : GrowingTree) (name : List ℕ) (ns : List ℕ) → EndsAt t name ns (ends_other t name ns)
ends_at t name [] = refl
ends_at t name (n ∷ ns) = ends_step t name n ns (ends_other t name ns) (is_one_of t (name ∷ []) n) (is_one_of t special n) refl refl (ends_at t name ns)

but_false : (a b : Bool) → (a && not b) ≡ true → b ≡ false
but_false true true e = sym e
but_false true false e = refl
but_false false true e = absurd (true≢false (sym e))
but_false false false e = refl

closed_as : (t : GrowingTree) (name : List ℕ) (r : Option ℕ) → EndsAt t name t.stack r → closed_other r name t ≡ closed_before is_special_node (name ∷ []) t
closed_as t name None is = ap (λ x. elim x [ true ↦ popped_until (name ∷ []) t | false ↦ t ]) (sym is)
closed_as t name (Some n) is =
    let w : ℕ → Bool = is_one_of t (name ∷ []) in
    ap (with_stack t) (past_beyond (λ m. is_one_of t implied m && not (w m)) (nat_eq n) (λ m e. other_node w n m is.1 (but_false (is_one_of t implied m) (w m) e)) t.stack ∙ is.2)
    ∙ ap (λ x. elim x [ true ↦ popped_until (name ∷ []) t | false ↦ t ]) (sym is.0)

pub any_other_is : (name : List ℕ) (t : GrowingTree) → any_other_end name t ≡ closed_before is_special_node (name ∷ []) t
any_other_is name t = closed_as t name (ends_other t name t.stack) (ends_at t name t.stack)

-- ---- list items

abbrev ItemAt : GrowingTree → List (List ℕ) → List ℕ → Option ℕ → Type 0
ItemAt t names ns None = in_scope (is_one_of t names) (ends_items_node t) ns ≡ false
ItemAt t names ns (Some n) = (in_scope (is_one_of t names) (ends_items_node t) ns ≡ true) × (is_one_of t names n ≡ true)
    × (past (is_one_of t (key t n ∷ [])) ns ≡ past (is_one_of t names) ns)

or_false : (b : Bool) → (b || false) ≡ b
or_false true = refl
or_false false = refl

other_key : (t : GrowingTree) (names : List (List ℕ)) (k n : ℕ) → is_one_of t names k ≡ true → is_one_of t names n ≡ false → is_one_of t (key t k ∷ []) n ≡ false
other_key t names k n wanted unwanted = elim (cases_Bool (bytes_eq (key t n) (key t k))) [
  | inl e ↦ absurd (true≢false (sym wanted ∙ ap (λ text. is_among_of text names) (sym ((bytes_eq-Decides (key t n) (key t k)).0 e)) ∙ unwanted))
  | inr f ↦ ap (λ b. b || false) f
]

item_step : (t : GrowingTree) (names : List (List ℕ)) (n : ℕ) (ns : List ℕ) (r : Option ℕ) (x y : Bool) → is_one_of t names n ≡ x → ends_items_node t n ≡ y → ItemAt t names ns r →
    ItemAt t names (n ∷ ns) (elim x [ true ↦ Some n | false ↦ elim y [ true ↦ None | false ↦ r ] ])
item_step t names n ns r true y e f is =
    let w : ℕ → Bool = is_one_of t names in (
      ap (λ b. b || (not (ends_items_node t n) && in_scope w (ends_items_node t) ns)) e,
      e,
      ap (λ b. elim b [ true ↦ ns | false ↦ past (is_one_of t (key t n ∷ [])) ns ]) (ap (λ b. b || false) ((bytes_eq-Decides (key t n) (key t n)).1 refl))
          ∙ ap (λ b. elim b [ true ↦ ns | false ↦ past w ns ]) (sym e),
    )
item_step t names n ns r false true e f is =
    let w : ℕ → Bool = is_one_of t names in
    ap (λ b. b || (not (ends_items_node t n) && in_scope w (ends_items_node t) ns)) e ∙ ap (λ b. not b && in_scope w (ends_items_node t) ns) f
item_step t names n ns None false false e f is =
    let w : ℕ → Bool = is_one_of t names in
    ap (λ b. b || (not (ends_items_node t n) && in_scope w (ends_items_node t) ns)) e ∙ ap (λ b. not b && in_scope w (ends_items_node t) ns) f ∙ is
item_step t names n ns (Some k) false false e f is =
    let w : ℕ → Bool = is_one_of t names in (
      ap (λ b. b || (not (ends_items_node t n) && in_scope w (ends_items_node t) ns)) e ∙ ap (λ b. not b && in_scope w (ends_items_node t) ns) f ∙ is.0,
      is.1,
      ap (λ b. elim b [ true ↦ ns | false ↦ past (is_one_of t (key t k ∷ [])) ns ]) (other_key t names k n is.1 e) ∙ is.2 ∙ ap (λ b. elim b [ true ↦ ns | false ↦ past w ns ]) (sym e),
    )

item_at : (t : GrowingTree) (names : List (List ℕ)) (ns : List ℕ) → ItemAt t names ns (open_item t names ns)
item_at t names [] = refl
item_at t names (n ∷ ns) = item_step t names n ns (open_item t names ns) (is_one_of t names n) (ends_items_node t n) refl refl (item_at t names ns)

item_closed : (t : GrowingTree) (names : List (List ℕ)) (r : Option ℕ) → ItemAt t names t.stack r → closed_item r t ≡ closed_before ends_items_node names t
item_closed t names None is = ap (λ x. elim x [ true ↦ popped_until names t | false ↦ t ]) (sym is)
item_closed t names (Some n) is =
    implied_first (key t n ∷ []) implied t ∙ ap (with_stack t) is.2 ∙ ap (λ x. elim x [ true ↦ popped_until names t | false ↦ t ]) (sym is.0)

pub item_is : (names : List (List ℕ)) (t : GrowingTree) → closed_item (open_item t names t.stack) t ≡ closed_before ends_items_node names t
item_is names t = item_closed t names (open_item t names t.stack) (item_at t names t.stack)

-- ---- implied end tags first

-- none of the first names is among the others
abbrev pub are_apart : List (List ℕ) → List (List ℕ) → Bool
are_apart names others = list_all (λ name. not (is_among_of name others)) names

apart_one : (names others : List (List ℕ)) → are_apart names others ≡ true → (text : List ℕ) → is_among_of text names ≡ true → is_among_of text others ≡ false
apart_one [] others h text is = absurd (true≢false (sym is))
apart_one (name ∷ names) others h text is =
    let parts = both (not (is_among_of name others)) (are_apart names others) h in
    elim (cases_Bool (bytes_eq text name)) [
      | inl e ↦ ap (λ (w : List ℕ). is_among_of w others) ((bytes_eq-Decides text name).0 e) ∙ not_true (is_among_of name others) parts.0
      | inr f ↦ apart_one names others parts.1 text (ap (λ b. b || is_among_of text names) (sym f) ∙ is)
    ]

and_true : (a b : Bool) → (a && b) ≡ true → a ≡ true
and_true true b e = refl
and_true false b e = e

-- to generate implied end tags before elements are popped until one of these, whose end tags are not implied, is to pop them
pub implied_apart : (names : List (List ℕ)) → are_apart implied names ≡ true → (t : GrowingTree) → popped_until names (implied_of implied [] t) ≡ popped_until names t
implied_apart names h t =
    ap (with_stack t) (past_beyond (λ n. is_one_of t implied n && not (is_one_of t [] n)) (is_one_of t names)
    (λ n e. apart_one implied names h (key t n) (and_true (is_one_of t implied n) (not (is_one_of t [] n)) e)) t.stack)
