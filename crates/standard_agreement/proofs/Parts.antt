-- The tree under construction in both definitions, and what is done to its stack of open elements.
use Rattle.std.specs.Prelude.{◌≡◌, refl, ℕ, ◌<◌, Bool, true, false, not, ◌&&◌, List, [], ◌∷◌, Option, None, Some, codes}
use Rattle.std.specs.Prelude.{drop, option_map, unwrap_or}
use Rattle.std.specs.List.{list_all}
use Rattle.std.proofs.Common.{arith}
use Rattle.std.proofs.lemmas.Option.{same_Some}
use mathlib.Core.Path.{◌∙◌, sym, ap, subst}
use Rattle.standard_rules.specs.Building.{Entry as OldEntry, Open, closed, closed_item as old_closed_item, closed_p as old_closed_p, ended_other, ends_other as has_other, holding, implied_but}
use Rattle.standard_rules.specs.Building.{in_scope as in_names_scope, open_item as item_name, popped, popped_until as old_popped_until, popped_until_from, popped_while, popped_while_from}
use Rattle.standard_rules.specs.ElementNames.{implied_names, scope_of}
use Rattle.standard_rules.specs.RuleWords.{ScopeKind as OldScope, Scope as OldScopeOf, ButtonScope as OldButton, ListItemScope as OldItem, TableScope as OldTable}
use Rattle.standard_rules.specs.TreeTokens.{Trees, is_among}
use Rattle.standard_trees.specs.RuleWords.{ButtonScope, ListItemScope, Scope, ScopeKind, TableScope}
use Rattle.standard_trees.specs.TreeStore.{EndOf, Kind, contents_in}
use Rattle.standard_trees.specs.GrowingTree.{GrowingTree, beyond, current, ends_scope, has_in_scope, implied_of, in_contents, is_one, key}
use Rattle.standard_trees.specs.GrowingTree.{past, place, popped_until, popped_up_to, top, with_stack, foster_place, in_scope}
use Rattle.standard_trees.specs.Formatting.{any_other_end, closed_item, closed_other, closed_p, ends_other, open_item, without_p}
use Rattle.standard_trees.specs.NameLists.{button_scope, fostering_names, implied, list_item_scope, scope, table_scope}
use Rattle.standard_agreement.proofs.Names.{alike, every, known, same, same_implied}
use Rattle.standard_agreement.proofs.Store.{free, numbers}
use Rattle.standard_agreement.proofs.Stack.{Fits, Left, Tests, and_tests, beyond_is, fits_popped, is_some_number, item_is, kind_now, no_tests, one_tests, other_is, past_beyond, past_is, scope_is}
use Rattle.standard_agreement.proofs.Listing.{Entries, FormIs, Keeps, Matched, entries_kept, form_kept}

-- each element of the stack has a greater number than those below it
abbrev pub AreBelow : ℕ → List Open → Type 0
AreBelow next [] = Unit {0}
AreBelow next (o ∷ os) = (o.number < next) × AreBelow o.number os

pub record Parts (document : Trees) (os : List Open) (es : List OldEntry) (form : Option ℕ) (next : ℕ) (context : Option Kind) (t : GrowingTree) : Type 0 where
  pub fits : Fits t.nodes document os
  pub stack : t.stack ≡ numbers document os
  pub listed : Entries t.nodes next document os es t.listed
  pub pointer : FormIs t.nodes next document os form t.form
  pub below : AreBelow next os
  pub fostering : t.fostering ≡ false
  pub around : t.context ≡ context

-- ---- popping

pub record Pops (document : Trees) (os rest : List Open) : Type 0 where
  pub matched : (k n : ℕ) → Matched k n document os → Matched k n document rest
  pub below : (next : ℕ) → AreBelow next os → AreBelow next rest

pub below_less : (m n : ℕ) (os : List Open) → m < n → AreBelow m os → AreBelow n os
below_less m n [] h a = tt
below_less m n (o ∷ os) h a = let l : o.number < m = a.0 in (omega arith, a.1)

pub pops_one : (document : Trees) (o p : Open) (os : List Open) → Pops document (o ∷ p ∷ os) (holding p o ∷ os)
pops_one document o p os = record {
  matched = λ k n h. h.1;
  below = λ next h. let a : o.number < next = h.0 in let b : p.number < o.number = h.1.0 in (omega arith, h.1.1);
}

pub pops_more : (document : Trees) (os ps qs : List Open) → Pops document os ps → Pops document ps qs → Pops document os qs
pops_more document os ps qs one two = record { matched = λ k n h. two.matched k n (one.matched k n h); below = λ next h. two.below next (one.below next h) }

pub no_pops : (document : Trees) (os : List Open) → Pops document os os
no_pops document os = record { matched = λ k n h. h; below = λ next h. h }

past_pops : (document : Trees) (names : List (List ℕ)) (o : Open) (os rest : List Open) → popped_until_from names o os ≡ Some rest → Pops document (o ∷ os) rest
past_pops document names o [] rest h = cc
past_pops document names o (p ∷ os) rest h = by_test (is_among o.name names) h (λ k. past_pops document names (holding p o) os rest k)
  where
    by_test : (x : Bool) → elim x [ true ↦ Some (holding p o ∷ os) | false ↦ popped_until_from names (holding p o) os ] ≡ Some rest →
        (popped_until_from names (holding p o) os ≡ Some rest → Pops document (holding p o ∷ os) rest) → Pops document (o ∷ p ∷ os) rest
    by_test true k later = subst (Pops document (o ∷ p ∷ os)) (same_Some (holding p o ∷ os) rest k) (pops_one document o p os)
    by_test false k later = pops_more document (o ∷ p ∷ os) (holding p o ∷ os) rest (pops_one document o p os) (later k)

beyond_pops : (document : Trees) (named : List ℕ → Bool) (o : Open) (os : List Open) → Pops document (o ∷ os) (popped_while_from named o os)
beyond_pops document named o [] = no_pops document (o ∷ [])
beyond_pops document named o (p ∷ os) = by_test (named o.name) (beyond_pops document named (holding p o) os)
  where
    by_test : (x : Bool) → Pops document (holding p o ∷ os) (popped_while_from named (holding p o) os) →
        Pops document (o ∷ p ∷ os) (elim x [ true ↦ popped_while_from named (holding p o) os | false ↦ o ∷ p ∷ os ])
    by_test true later = pops_more document (o ∷ p ∷ os) (holding p o ∷ os) (popped_while_from named (holding p o) os) (pops_one document o p os) later
    by_test false later = no_pops document (o ∷ p ∷ os)

-- the parts once elements have been popped
pub parts_left : (document : Trees) (os rest : List Open) (es : List OldEntry) (form : Option ℕ) (next : ℕ) (context : Option Kind) (t : GrowingTree) (stack : List ℕ) →
    Parts document os es form next context t → Pops document os rest → Left t document stack rest → Parts document rest es form next context (with_stack t stack)
parts_left document os rest es form next context t stack p pops left = record {
  fits = left.0;
  stack = left.1;
  listed = entries_kept t.nodes t.nodes next next document os rest keeps es t.listed p.listed;
  pointer = form_kept t.nodes t.nodes next next document os rest keeps form t.form p.pointer;
  below = pops.below next p.below;
  fostering = p.fostering;
  around = p.around;
}
  where
    keeps : Keeps t.nodes t.nodes next next document os rest
    keeps = record { kinds = λ n name attrs l h. h; old = omega arith; new = omega arith; matched = λ k n l u h. pops.matched k n h }

-- what the one definition does to the stack is what the other does to the tree
abbrev pub StackOp : (List Open → Option (List Open)) → (GrowingTree → GrowingTree) → Type 0
StackOp f g = (document : Trees) (os : List Open) (es : List OldEntry) (form : Option ℕ) (next : ℕ) (context : Option Kind) (t : GrowingTree) (rest : List Open) →
    Parts document os es form next context t → f os ≡ Some rest → Parts document rest es form next context (g t)

pub pop_op : StackOp popped (λ t. with_stack t (drop 1 t.stack))
pop_op document [] es form next context t rest p h = cc
pop_op document (o ∷ []) es form next context t rest p h = cc
pop_op document (o ∷ q ∷ os) es form next context t rest p h =
    subst (λ left. Parts document left es form next context (with_stack t (drop 1 t.stack))) (same_Some (holding q o ∷ os) rest h)
    (parts_left document (o ∷ q ∷ os) (holding q o ∷ os) es form next context t (drop 1 t.stack) p (pops_one document o q os) (fits_popped t.nodes document o q os p.fits, ap (drop 1) p.stack))

pub until_op : (names others : List (List ℕ)) → alike names others ≡ true → StackOp (old_popped_until others) (popped_until names)
until_op names others same document [] es form next context t rest p h = cc
until_op names others same document (o ∷ os) es form next context t rest p h =
    let left : Left t document (past (is_one t names) (numbers document (o ∷ os))) rest = past_is t document others (is_one t names) (one_tests t names others same) o os rest h p.fits in
    parts_left document (o ∷ os) rest es form next context t (past (is_one t names) t.stack) p (past_pops document others o os rest h) (left.0, ap (past (is_one t names)) p.stack ∙ left.1)

-- popping while a test is met
while_op : (named : List ℕ → Bool) (numbered : GrowingTree → ℕ → Bool) → ((t : GrowingTree) → Tests t named (numbered t)) → named (codes "html") ≡ false →
    StackOp (λ os. Some (popped_while named os)) (λ t. with_stack t (beyond (numbered t) t.stack))
while_op named numbered tests root document [] es form next context t rest p h = absurd p.fits.3
while_op named numbered tests root document (o ∷ os) es form next context t rest p h =
    let left : Left t document (beyond (numbered t) (numbers document (o ∷ os))) (popped_while_from named o os) = beyond_is t document named (numbered t) (tests t) root o os p.fits in
    subst (λ l. Parts document l es form next context (with_stack t (beyond (numbered t) t.stack))) (same_Some (popped_while_from named o os) rest h)
    (parts_left document (o ∷ os) (popped_while_from named o os) es form next context t (beyond (numbered t) t.stack) p (beyond_pops document named o os)
    (left.0, ap (beyond (numbered t)) p.stack ∙ left.1))

implied_tests : (t : GrowingTree) (names others : List (List ℕ)) → alike names others ≡ true →
    Tests t (λ name. is_among name implied_names && not (is_among name others)) (λ n. is_one t implied n && not (is_one t names n))
implied_tests t names others same =
    and_tests t (λ name. is_among name implied_names) (λ name. not (is_among name others)) (is_one t implied) (λ n. not (is_one t names n)) (one_tests t implied implied_names same_implied)
    (no_tests t (λ name. is_among name others) (is_one t names) (one_tests t names others same))

pub implied_op : (names others : List (List ℕ)) → alike names others ≡ true → StackOp (λ os. Some (implied_but others os)) (implied_of implied names)
implied_op names others same =
    while_op (λ name. is_among name implied_names && not (is_among name others)) (λ t n. is_one t implied n && not (is_one t names n)) (λ t. implied_tests t names others same) refl

pub up_to_op : (names others : List (List ℕ)) → alike names others ≡ true → not (is_among (codes "html") others) ≡ false →
    StackOp (λ os. Some (popped_while (λ name. not (is_among name others)) os)) (popped_up_to names)
up_to_op names others same root =
    while_op (λ name. not (is_among name others)) (λ t n. not (is_one t names n)) (λ t. no_tests t (λ name. is_among name others) (is_one t names) (one_tests t names others same)) root

pub closed_op : (names others : List (List ℕ)) → alike names others ≡ true → StackOp (closed others) (λ t. popped_until names (implied_of implied names t))
closed_op names others same document os es form next context t rest p h =
    until_op names others same document (implied_but others os) es form next context (implied_of implied names t) rest
    (implied_op names others same document os es form next context t (implied_but others os) p refl) h

-- ---- scopes

abbrev pub new_scope : OldScope → ScopeKind
new_scope OldScopeOf = Scope
new_scope OldButton = ButtonScope
new_scope OldItem = ListItemScope
new_scope OldTable = TableScope

ends_tests : (kind : OldScope) (t : GrowingTree) → Tests t (λ name. is_among name (scope_of kind)) (ends_scope (new_scope kind) t)
ends_tests OldScopeOf t = one_tests t scope (scope_of OldScopeOf) refl
ends_tests OldButton t = one_tests t button_scope (scope_of OldButton) refl
ends_tests OldItem t = one_tests t list_item_scope (scope_of OldItem) refl
ends_tests OldTable t = one_tests t table_scope (scope_of OldTable) refl

pub has_scope : (kind : OldScope) (names others : List (List ℕ)) → alike names others ≡ true → (document : Trees) (os : List Open) (es : List OldEntry) (form : Option ℕ) (next : ℕ)
    (context : Option Kind) (t : GrowingTree) → Parts document os es form next context t → has_in_scope (new_scope kind) names t ≡ in_names_scope (scope_of kind) others os
has_scope kind names others same document os es form next context t p =
    ap (in_scope (is_one t names) (ends_scope (new_scope kind) t)) p.stack
    ∙ scope_is t document (scope_of kind) others (is_one t names) (ends_scope (new_scope kind) t) (one_tests t names others same) (ends_tests kind t) os [] p.fits.0 p.fits.2

-- ---- p, items, any other end tag

pub p_op : StackOp old_closed_p without_p
p_op document os es form next context t rest p h =
    by_scope (has_in_scope ButtonScope (codes "p" ∷ []) t) (in_names_scope (scope_of OldButton) (codes "p" ∷ []) os)
    (has_scope OldButton (codes "p" ∷ []) (codes "p" ∷ []) refl document os es form next context t p) h
  where
    by_scope : (x y : Bool) → x ≡ y → elim y [ true ↦ closed (codes "p" ∷ []) os | false ↦ Some os ] ≡ Some rest →
        Parts document rest es form next context (elim x [ true ↦ closed_p t | false ↦ t ])
    by_scope true true e k = closed_op (codes "p" ∷ []) (codes "p" ∷ []) refl document os es form next context t rest p k
    by_scope true false e k = cc
    by_scope false true e k = cc
    by_scope false false e k = subst (λ l. Parts document l es form next context t) (same_Some os rest k) p

-- the same name is the same list
pub alike_self : (names : List (List ℕ)) → alike names names ≡ true
alike_self names = each known
  where
    one : (x : Bool) → same x x ≡ true
    one true = refl
    one false = refl

    each : (others : List (List ℕ)) → list_all (λ name. same (is_among name names) (is_among name names)) others ≡ true
    each others = every (λ name. same (is_among name names) (is_among name names)) (λ name. one (is_among name names)) others

pub item_op : (names others : List (List ℕ)) → alike names others ≡ true → StackOp (λ os. old_closed_item (item_name others os) os) (λ t. closed_item (open_item t names t.stack) t)
item_op names others same document os es form next context t rest p h =
    by_item (open_item t names t.stack) (item_name others os)
    (ap (λ s. option_map (key t) (open_item t names s)) p.stack ∙ item_is t document names others same os [] p.fits.0 p.fits.2) h
  where
    by_item : (x : Option ℕ) (y : Option (List ℕ)) → option_map (key t) x ≡ y → old_closed_item y os ≡ Some rest → Parts document rest es form next context (closed_item x t)
    by_item None None e k = subst (λ l. Parts document l es form next context t) (same_Some os rest k) p
    by_item None (Some name) e k = cc
    by_item (Some n) None e k = cc
    by_item (Some n) (Some name) e k =
        closed_op (key t n ∷ []) (name ∷ [])
        (subst (λ one. alike (one ∷ []) (name ∷ []) ≡ true) (sym (same_Some (key t n) name e)) (alike_self (name ∷ []))) document os es form next context t rest p k

pub other_op : (name : List ℕ) → StackOp (ended_other name) (any_other_end name)
other_op name document os es form next context t rest p h =
    by_end (ends_other t name t.stack) refl (has_other name os)
    (ap (λ s. is_some_number (ends_other t name s)) p.stack ∙ other_is t document name (alike_self (name ∷ [])) os [] p.fits.0 p.fits.2) h
  where
    test : ℕ → Bool
    test n = is_one t implied n && not (is_one t (name ∷ []) n)

    never : (m : ℕ) → is_one t (name ∷ []) m ≡ true → test m ≡ false
    never m e = ap (λ x. is_one t implied m && not x) e ∙ no (is_one t implied m)
      where
        no : (x : Bool) → x && false ≡ false
        no true = refl
        no false = refl

    by_end : (x : Option ℕ) → ends_other t name t.stack ≡ x → (y : Bool) → is_some_number x ≡ y → elim y [ true ↦ closed (name ∷ []) os | false ↦ Some os ] ≡ Some rest →
        Parts document rest es form next context (closed_other x name t)
    by_end None f false e k = subst (λ l. Parts document l es form next context t) (same_Some os rest k) p
    by_end None f true e k = cc
    by_end (Some n) f false e k = cc
    by_end (Some n) f true e k =
        subst (λ s. Parts document rest es form next context (with_stack (implied_of implied (name ∷ []) t) s)) (sym (past_beyond t name n test never t.stack f))
        (closed_op (name ∷ []) (name ∷ []) (alike_self (name ∷ [])) document os es form next context t rest p k)

-- ---- the place of a new node

pub place_is : (document : Trees) (o : Open) (os : List Open) (es : List OldEntry) (form : Option ℕ) (next : ℕ) (context : Option Kind) (t : GrowingTree) →
    Parts document (o ∷ os) es form next context t → place t ≡ EndOf (free document os)
place_is document o os es form next context t p =
    ap (λ x. in_contents t (elim (x && is_one t fostering_names (current t)) [ true ↦ foster_place t t.stack | false ↦ EndOf (current t) ])) p.fostering
    ∙ ap (λ s. in_contents t (EndOf (top s))) p.stack
    ∙ ap (λ kind. EndOf (unwrap_or (contents_in kind) (free document os))) (kind_now t document o os [] p.fits.0)
