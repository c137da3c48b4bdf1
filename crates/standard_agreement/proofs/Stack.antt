-- The stack of open elements in both definitions.
use Rattle.std.specs.Prelude.{◌≡◌, refl, ℕ, suc, Bool, true, false, not, ◌&&◌, ◌||◌, nat_eq, List, [], ◌∷◌, ◌++◌, Option, None, Some, bytes_eq, codes}
use Rattle.std.specs.Prelude.{length, option_map}
use Rattle.std.proofs.Common.{arith}
use Rattle.std.proofs.lemmas.Bool.{true≢false}
use Rattle.std.proofs.lemmas.List.{append-nil}
use Rattle.std.proofs.lemmas.Option.{same_Some}
use mathlib.Core.Path.{◌∙◌, sym, ap, subst}
use Rattle.standard_tokens.specs.Tokens.{Attr}
use Rattle.standard_rules.specs.Building.{Open, holding, open_item as item_name, ends_other as has_other, popped_until_from}
use Rattle.standard_rules.specs.Building.{popped_while_from, in_scope as in_names_scope}
use Rattle.standard_rules.specs.ElementNames.{special_names}
use Rattle.standard_rules.specs.TreeTokens.{Trees, element_node, is_among, joined, no_trees}
use Rattle.standard_trees.specs.TreeStore.{Node, key_in, node_at}
use Rattle.standard_trees.specs.GrowingTree.{GrowingTree, beyond, in_scope, is_named, is_one, key, kind_of, past}
use Rattle.standard_trees.specs.Formatting.{ends_other, open_item}
use Rattle.standard_trees.specs.NameLists.{crossed_by_items, special}
use Rattle.standard_agreement.proofs.Names.{IsKnown, alike, alike_is, same_special}
use Rattle.standard_agreement.proofs.Preorder.{At, after_joined, at_joined, element, roots, roots_joined}
use Rattle.standard_agreement.proofs.Store.{Held, free, numbers}

-- ---- the elements of the stack

abbrev pub is_some_number : Option ℕ → Bool
is_some_number None = false
is_some_number (Some n) = true

abbrev pub AreKnown : List Open → Type 0
AreKnown [] = Unit {0}
AreKnown (o ∷ os) = IsKnown o.name × AreKnown os

-- the lowest is `html`
abbrev pub IsRooted : List Open → Type 0
IsRooted [] = ⊥
IsRooted (o ∷ []) = o.name ≡ codes "html"
IsRooted (o ∷ p ∷ os) = IsRooted (p ∷ os)

abbrev pub Fits : List Node → Trees → List Open → Type 0
Fits nodes document os = Held nodes document os [] × (length nodes ≡ free document os) × AreKnown os × IsRooted os

rooted_popped : (p o : Open) (os : List Open) → IsRooted (p ∷ os) → IsRooted (holding p o ∷ os)
rooted_popped p o [] h = h
rooted_popped p o (q ∷ os) h = h

pub free_popped : (document : Trees) (o p : Open) (os : List Open) → free document (holding p o ∷ os) ≡ free document (o ∷ p ∷ os)
free_popped document o p os = after_joined (suc (free document os)) p.children (element_node o.name o.attrs o.children no_trees)

pub fits_popped : (nodes : List Node) (document : Trees) (o p : Open) (os : List Open) → Fits nodes document (o ∷ p ∷ os) → Fits nodes document (holding p o ∷ os)
fits_popped nodes document o p os f = ((current, finished, f.0.2.2), f.1 ∙ sym (free_popped document o p os), f.2.1, rooted_popped p o os f.3)
  where
    n : ℕ
    n = free document os

    last : Trees
    last = element_node o.name o.attrs o.children no_trees

    current : node_at nodes n ≡ record { kind = element p.name p.attrs; children = roots (suc n) (joined p.children last) ++ [] }
    current =
        f.0.2.0 ∙ ap (λ l. record { kind = element p.name p.attrs; children = l })
        (sym (roots_joined (suc n) p.children last) ∙ sym (append-nil (roots (suc n) (joined p.children last))))

    finished : At nodes (suc n) (joined p.children last)
    finished =
        at_joined nodes (suc n) p.children last f.0.2.1
        (f.0.0 ∙ ap (λ l. record { kind = element o.name o.attrs; children = l }) (append-nil (roots (suc (free document (p ∷ os))) o.children)), f.0.1, tt)

-- ---- tests

-- a test of a number, and a test of the name that is the same
abbrev pub Tests : GrowingTree → (List ℕ → Bool) → (ℕ → Bool) → Type 0
Tests t named numbered = (n : ℕ) (name : List ℕ) (attrs : List Attr) → kind_of t n ≡ element name attrs → IsKnown name → numbered n ≡ named name

pub one_tests : (t : GrowingTree) (names others : List (List ℕ)) → alike names others ≡ true → Tests t (λ name. is_among name others) (is_one t names)
one_tests t names others h n name attrs is known = ap (is_named names) is ∙ alike_is names others h name known

pub no_tests : (t : GrowingTree) (named : List ℕ → Bool) (numbered : ℕ → Bool) → Tests t named numbered → Tests t (λ name. not (named name)) (λ n. not (numbered n))
no_tests t named numbered h n name attrs is known = ap not (h n name attrs is known)

pub and_tests : (t : GrowingTree) (f g : List ℕ → Bool) (h k : ℕ → Bool) → Tests t f h → Tests t g k → Tests t (λ name. f name && g name) (λ n. h n && k n)
and_tests t f g h k one two n name attrs is known = ap (λ x. x && k n) (one n name attrs is known) ∙ ap (λ x. f name && x) (two n name attrs is known)

pub kind_now : (t : GrowingTree) (document : Trees) (o : Open) (os : List Open) (kids : List ℕ) → Held t.nodes document (o ∷ os) kids → kind_of t (free document os) ≡ element o.name o.attrs
kind_now t document o os kids h = ap (λ (node : Node). node.kind) h.0

-- ---- pop until

-- what is left of the stack
abbrev pub Left : GrowingTree → Trees → List ℕ → List Open → Type 0
Left t document stack os = Fits t.nodes document os × (stack ≡ numbers document os)

pub past_is : (t : GrowingTree) (document : Trees) (names : List (List ℕ)) (numbered : ℕ → Bool) → Tests t (λ name. is_among name names) numbered → (o : Open) (os rest : List Open) →
    popped_until_from names o os ≡ Some rest → Fits t.nodes document (o ∷ os) → Left t document (past numbered (numbers document (o ∷ os))) rest
past_is t document names numbered tests o [] rest h f = cc
past_is t document names numbered tests o (p ∷ os) rest h f =
    by_test (is_among o.name names)
    (tests (free document (p ∷ os)) o.name o.attrs (kind_now t document o (p ∷ os) [] f.0) f.2.0) h
    (λ k. past_is t document names numbered tests (holding p o) os rest k (fits_popped t.nodes document o p os f))
  where
    stack : Bool → List ℕ
    stack x = elim x [ true ↦ numbers document (p ∷ os) | false ↦ past numbered (numbers document (p ∷ os)) ]

    by_test : (x : Bool) → numbered (free document (p ∷ os)) ≡ x →
        elim x [ true ↦ Some (holding p o ∷ os) | false ↦ popped_until_from names (holding p o) os ] ≡ Some rest →
        (popped_until_from names (holding p o) os ≡ Some rest → Left t document (past numbered (numbers document (p ∷ os))) rest) →
        Left t document (elim (numbered (free document (p ∷ os))) [ true ↦ numbers document (p ∷ os) | false ↦ past numbered (numbers document (p ∷ os)) ]) rest
    by_test true e k later =
        subst (λ left. Left t document (elim (numbered (free document (p ∷ os))) [ true ↦ numbers document (p ∷ os) | false ↦ past numbered (numbers document (p ∷ os)) ]) left)
        (same_Some (holding p o ∷ os) rest k) (fits_popped t.nodes document o p os f, ap stack e)
    by_test false e k later = ((later k).0, ap stack e ∙ (later k).1)

-- ---- pop while

pub beyond_is : (t : GrowingTree) (document : Trees) (named : List ℕ → Bool) (numbered : ℕ → Bool) → Tests t named numbered → named (codes "html") ≡ false → (o : Open) (os : List Open) →
    Fits t.nodes document (o ∷ os) → Left t document (beyond numbered (numbers document (o ∷ os))) (popped_while_from named o os)
beyond_is t document named numbered tests root o [] f = (
  f,
  ap (λ x. elim x [ true ↦ [] | false ↦ numbers document (o ∷ []) ])
      (tests (free document []) o.name o.attrs (kind_now t document o [] [] f.0) f.2.0 ∙ ap named f.3 ∙ root),
)
beyond_is t document named numbered tests root o (p ∷ os) f =
    by_test (named o.name) (tests (free document (p ∷ os)) o.name o.attrs (kind_now t document o (p ∷ os) [] f.0) f.2.0)
    (beyond_is t document named numbered tests root (holding p o) os (fits_popped t.nodes document o p os f))
  where
    stack : Bool → List ℕ
    stack x = elim x [ true ↦ beyond numbered (numbers document (p ∷ os)) | false ↦ numbers document (o ∷ p ∷ os) ]

    by_test : (x : Bool) → numbered (free document (p ∷ os)) ≡ x → Left t document (beyond numbered (numbers document (p ∷ os))) (popped_while_from named (holding p o) os) →
        Left t document (elim (numbered (free document (p ∷ os))) [ true ↦ beyond numbered (numbers document (p ∷ os)) | false ↦ numbers document (o ∷ p ∷ os) ])
        (elim x [ true ↦ popped_while_from named (holding p o) os | false ↦ o ∷ p ∷ os ])
    by_test true e later = (later.0, ap stack e ∙ later.1)
    by_test false e later = (f, ap stack e)

-- ---- scopes

pub scope_is : (t : GrowingTree) (document : Trees) (bounds names : List (List ℕ)) (wanted ends : ℕ → Bool) → Tests t (λ name. is_among name names) wanted →
    Tests t (λ name. is_among name bounds) ends → (os : List Open) (kids : List ℕ) → Held t.nodes document os kids → AreKnown os →
    in_scope wanted ends (numbers document os) ≡ in_names_scope bounds names os
unfolding in_names_scope
scope_is t document bounds names wanted ends tests bounding [] kids h known = refl
scope_is t document bounds names wanted ends tests bounding (o ∷ os) kids h known =
    ap (λ x. x || (not (ends (free document os)) && in_scope wanted ends (numbers document os)))
    (tests (free document os) o.name o.attrs (kind_now t document o os kids h) known.0)
    ∙ ap (λ x. is_among o.name names || (not x && in_scope wanted ends (numbers document os)))
    (bounding (free document os) o.name o.attrs (kind_now t document o os kids h) known.0)
    ∙ ap (λ x. is_among o.name names || (not (is_among o.name bounds) && x))
    (scope_is t document bounds names wanted ends tests bounding os (free document os ∷ []) h.2 known.1)

-- ---- items

pub item_is : (t : GrowingTree) (document : Trees) (names others : List (List ℕ)) → alike names others ≡ true → (os : List Open) (kids : List ℕ) → Held t.nodes document os kids →
    AreKnown os → option_map (key t) (open_item t names (numbers document os)) ≡ item_name others os
item_is t document names others same [] kids h known = refl
item_is t document names others same (o ∷ os) kids h known =
    by_first (is_one t names (free document os)) (is_among o.name others)
    (one_tests t names others same (free document os) o.name o.attrs (kind_now t document o os kids h) known.0)
    (is_one t special (free document os) && not (is_one t crossed_by_items (free document os)))
    (is_among o.name special_names && not (is_among o.name (codes "address" ∷ codes "div" ∷ codes "p" ∷ [])))
    (and_tests t (λ name. is_among name special_names) (λ name. not (is_among name (codes "address" ∷ codes "div" ∷ codes "p" ∷ [])))
    (is_one t special) (λ n. not (is_one t crossed_by_items n)) (one_tests t special special_names same_special)
    (no_tests t (λ name. is_among name (codes "address" ∷ codes "div" ∷ codes "p" ∷ [])) (is_one t crossed_by_items)
    (one_tests t crossed_by_items (codes "address" ∷ codes "div" ∷ codes "p" ∷ []) refl))
    (free document os) o.name o.attrs (kind_now t document o os kids h) known.0)
    (item_is t document names others same os (free document os ∷ []) h.2 known.1)
  where
    n : ℕ
    n = free document os

    by_first : (x y : Bool) → x ≡ y → (u v : Bool) → u ≡ v → option_map (key t) (open_item t names (numbers document os)) ≡ item_name others os →
        option_map (key t) (elim x [ true ↦ Some n | false ↦ elim u [ true ↦ None | false ↦ open_item t names (numbers document os) ] ]) ≡
        elim y [ true ↦ Some o.name | false ↦ elim v [ true ↦ None | false ↦ item_name others os ] ]
    by_first true true e u v d later = ap (λ kind. Some (key_in kind)) (kind_now t document o os kids h)
    by_first true false e u v d later = cc
    by_first false true e u v d later = cc
    by_first false false e true true d later = refl
    by_first false false e true false d later = cc
    by_first false false e false true d later = cc
    by_first false false e false false d later = later

-- ---- any other end tag

pub other_is : (t : GrowingTree) (document : Trees) (name : List ℕ) → alike (name ∷ []) (name ∷ []) ≡ true → (os : List Open) (kids : List ℕ) → Held t.nodes document os kids → AreKnown os →
    is_some_number (ends_other t name (numbers document os)) ≡ has_other name os
other_is t document name same [] kids h known = refl
other_is t document name same (o ∷ os) kids h known =
    by_first (is_one t (name ∷ []) n) (bytes_eq o.name name)
    (one_tests t (name ∷ []) (name ∷ []) same n o.name o.attrs (kind_now t document o os kids h) known.0 ∙ or_none (bytes_eq o.name name)) (is_one t special n)
    (is_among o.name special_names) (one_tests t special special_names same_special n o.name o.attrs (kind_now t document o os kids h) known.0)
    (other_is t document name same os (n ∷ []) h.2 known.1)
  where
    n : ℕ
    n = free document os

    or_none : (x : Bool) → x || false ≡ x
    or_none true = refl
    or_none false = refl

    by_first : (x y : Bool) → x ≡ y → (u v : Bool) → u ≡ v → is_some_number (ends_other t name (numbers document os)) ≡ has_other name os →
        is_some_number (elim x [ true ↦ Some n | false ↦ elim u [ true ↦ None | false ↦ ends_other t name (numbers document os) ] ]) ≡ y || (not v && has_other name os)
    by_first true true e u v d later = refl
    by_first true false e u v d later = cc
    by_first false true e u v d later = cc
    by_first false false e true true d later = refl
    by_first false false e true false d later = cc
    by_first false false e false true d later = cc
    by_first false false e false false d later = later

pub same_self : (n : ℕ) → nat_eq n n ≡ true
same_self n = grind arith

same_number : (n m : ℕ) → nat_eq n m ≡ true → n ≡ m
same_number n m h = grind arith

-- the element that was found has the name
other_named : (t : GrowingTree) (name : List ℕ) (n : ℕ) (ms : List ℕ) → ends_other t name ms ≡ Some n → is_one t (name ∷ []) n ≡ true
other_named t name n [] h = cc
other_named t name n (m ∷ ms) h = by_test (is_one t (name ∷ []) m) refl (is_one t special m) h (other_named t name n ms)
  where
    by_test : (x : Bool) → is_one t (name ∷ []) m ≡ x → (u : Bool) → elim x [ true ↦ Some m | false ↦ elim u [ true ↦ None | false ↦ ends_other t name ms ] ] ≡ Some n →
        (ends_other t name ms ≡ Some n → is_one t (name ∷ []) n ≡ true) → is_one t (name ∷ []) n ≡ true
    by_test true e u k later = ap (is_one t (name ∷ [])) (sym (same_Some m n k)) ∙ e
    by_test false e true k later = cc
    by_test false e false k later = later k

not_itself : (t : GrowingTree) (name : List ℕ) (n m : ℕ) → is_one t (name ∷ []) n ≡ true → is_one t (name ∷ []) m ≡ false → nat_eq n m ≡ false
not_itself t name n m h k = by_test (nat_eq n m) refl
  where
    by_test : (x : Bool) → nat_eq n m ≡ x → nat_eq n m ≡ false
    by_test true e = absurd (true≢false (sym h ∙ ap (is_one t (name ∷ [])) (same_number n m e) ∙ k))
    by_test false e = e

past_other : (t : GrowingTree) (name : List ℕ) (n : ℕ) (ms : List ℕ) → ends_other t name ms ≡ Some n → past (nat_eq n) ms ≡ past (is_one t (name ∷ [])) ms
past_other t name n [] h = cc
past_other t name n (m ∷ ms) h = by_test (is_one t (name ∷ []) m) refl (is_one t special m) h (past_other t name n ms) (λ k. other_named t name n ms k)
  where
    stacks : Bool → Bool → Type 0
    stacks x y = elim x [ true ↦ ms | false ↦ past (nat_eq n) ms ] ≡ elim y [ true ↦ ms | false ↦ past (is_one t (name ∷ [])) ms ]

    by_test : (x : Bool) → is_one t (name ∷ []) m ≡ x → (u : Bool) → elim x [ true ↦ Some m | false ↦ elim u [ true ↦ None | false ↦ ends_other t name ms ] ] ≡ Some n →
        (ends_other t name ms ≡ Some n → past (nat_eq n) ms ≡ past (is_one t (name ∷ [])) ms) → (ends_other t name ms ≡ Some n → is_one t (name ∷ []) n ≡ true) →
        stacks (nat_eq n m) (is_one t (name ∷ []) m)
    by_test true e u k later named =
        subst (λ y. stacks (nat_eq n m) y) (sym e) (subst (λ x. stacks x true) (sym (ap (nat_eq n) (same_Some m n k) ∙ same_self n)) refl)
    by_test false e true k later named = cc
    by_test false e false k later named = subst (λ y. stacks (nat_eq n m) y) (sym e) (subst (λ x. stacks x false) (sym (not_itself t name n m (named k) e)) (later k))

-- behind elements that were popped because their end tags are implied, and that have another name
pub past_beyond : (t : GrowingTree) (name : List ℕ) (n : ℕ) (test : ℕ → Bool) → ((m : ℕ) → is_one t (name ∷ []) m ≡ true → test m ≡ false) → (ms : List ℕ) →
    ends_other t name ms ≡ Some n → past (nat_eq n) (beyond test ms) ≡ past (is_one t (name ∷ [])) (beyond test ms)
past_beyond t name n test never [] h = cc
past_beyond t name n test never (m ∷ ms) h =
    by_test (test m) refl (is_one t (name ∷ []) m) refl (is_one t special m) h (past_beyond t name n test never ms) (past_other t name n (m ∷ ms) h)
  where
    Same : Bool → Type 0
    Same x = past (nat_eq n) (elim x [ true ↦ beyond test ms | false ↦ m ∷ ms ]) ≡ past (is_one t (name ∷ [])) (elim x [ true ↦ beyond test ms | false ↦ m ∷ ms ])

    by_test : (x : Bool) → test m ≡ x → (y : Bool) → is_one t (name ∷ []) m ≡ y → (u : Bool) →
        elim y [ true ↦ Some m | false ↦ elim u [ true ↦ None | false ↦ ends_other t name ms ] ] ≡ Some n →
        (ends_other t name ms ≡ Some n → past (nat_eq n) (beyond test ms) ≡ past (is_one t (name ∷ [])) (beyond test ms)) → Same false → Same x
    by_test false e y f u k later here = here
    by_test true e true f u k later here = absurd (true≢false (sym e ∙ never m f))
    by_test true e false f true k later here = cc
    by_test true e false f false k later here = later k
