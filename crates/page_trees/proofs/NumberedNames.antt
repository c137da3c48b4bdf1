-- The numbers of element names that are not in `Name`, as the stack of open elements and the nodes change.
use Rattle.std.proofs.Common.{◌≡◌, ◌+◌, ◌<◌, ℕ, cond, drop, insert, length, List, [], ◌∷◌, ◌++◌, arith, remove, reverse, suc, take, refl, sym, ap, subst, ◌∙◌, Bool, true, false}
use Rattle.std.specs.Prelude.{All, None, Option, Some, String, encode_utf8_all, if◌then◌else◌, is_some, string_bytes}
use Rattle.std.specs.BTreeMap.{BTreeMap, Updates, btree_map_len, get, get_by_text, is_at}
use Rattle.std.specs.Cmp.Lexicographic.{slice_cmp}
use Rattle.std.specs.Map.{lookup}
use Rattle.std.specs.Option.{option_to_list}
use Rattle.std.specs.Ordering.{nat_cmp}
use Rattle.std.specs.Str.{bytes_eq}
use Rattle.std.specs.String.{string_cmp}
use Rattle.std.proofs.lemmas.List.{length-map, reverse-append}
use Rattle.std.proofs.lemmas.List.Elements.{All-append, All-cons, All-drop, All-nil, All-pop, All-push, All-same, All-take}
use Rattle.std.proofs.lemmas.Map.Text.{btree_map_updates_text, is_eq-slice_cmp}
use Rattle.std.proofs.lemmas.Option.{none-some, same_Some}
use Rattle.std.proofs.lemmas.Slice.Eq.{bytes_eq-Decides}
use Rattle.standard_trees.specs.GrowingTree.{GrowingTree, lower}
use Rattle.standard_trees.specs.TreeStore.{Node, local_in, node_at}
use Rattle.page_trees.specs.NameNumbers.{AreApart, AreNumbered, IsNumberFor, IsNumbered, number_in, numbers_of}
use Rattle.page_trees.specs.Popping.{before_last}
use Rattle.page_trees.specs.Stands.{AllStand, Builds, StandsFor}
use Rattle.page_trees.specs.TreeState.{TreeState}
use Rattle.page_trees.specs.declared.name.Name.{Name}
use Rattle.page_trees.specs.declared.stack.Open.{Open}
use Rattle.page_trees.proofs.PoppingLemmas.{all_before_last}
use Rattle.page_trees.proofs.ScopeLemmas.{by_ends}

-- ---- the open elements

pub none_numbered : (nodes : List Node) → AreNumbered [] nodes []
none_numbered nodes = record {
  apart = record { below = λ name n e. absurd (none-some _ e); once = λ name other n e f. absurd (none-some _ e) };
  elements = All-nil (λ o. IsNumbered [] o (node_at nodes o.id).kind);
}

-- elements are popped
pub front_numbered : (numbers : List (List ℕ × ℕ)) (nodes : List Node) (os : List Open) (n : ℕ) → AreNumbered numbers nodes os → AreNumbered numbers nodes (take n os)
front_numbered numbers nodes os n b = record {
  apart = b.apart;
  elements = All-take (λ o. IsNumbered numbers o (node_at nodes o.id).kind) n os b.elements;
}

pub popped_numbered : (numbers : List (List ℕ × ℕ)) (nodes : List Node) (os kept : List Open) (r : Option Open) → os ≡ kept ++ option_to_list r →
    AreNumbered numbers nodes os → AreNumbered numbers nodes kept
popped_numbered numbers nodes os kept r e b = record {
  apart = b.apart;
  elements = (All-pop (λ o. IsNumbered numbers o (node_at nodes o.id).kind) os kept r e b.elements).0;
}

pub before_numbered : (numbers : List (List ℕ × ℕ)) (nodes : List Node) (p : Open → Bool) (os : List Open) → AreNumbered numbers nodes os → AreNumbered numbers nodes (before_last p os)
before_numbered numbers nodes p os b = record {
  apart = b.apart;
  elements = all_before_last (λ o. IsNumbered numbers o (node_at nodes o.id).kind) p os b.elements;
}

-- an element is taken out
pub removed_numbered : (numbers : List (List ℕ × ℕ)) (nodes : List Node) (os : List Open) (p : ℕ) → AreNumbered numbers nodes os → AreNumbered numbers nodes (remove os p)
removed_numbered numbers nodes os p b = record {
  apart = b.apart;
  elements = All-append (λ o. IsNumbered numbers o (node_at nodes o.id).kind) (take p os) (drop (suc p) os)
      (All-take (λ o. IsNumbered numbers o (node_at nodes o.id).kind) p os b.elements) (All-drop (λ o. IsNumbered numbers o (node_at nodes o.id).kind) (suc p) os b.elements);
}

-- an element is put in
pub inserted_numbered : (numbers : List (List ℕ × ℕ)) (nodes : List Node) (os : List Open) (p : ℕ) (o : Open) → IsNumbered numbers o (node_at nodes o.id).kind →
    AreNumbered numbers nodes os → AreNumbered numbers nodes (insert os p o)
inserted_numbered numbers nodes os p o one b = record {
  apart = b.apart;
  elements = All-append (λ o. IsNumbered numbers o (node_at nodes o.id).kind) (take p os) (o ∷ drop p os)
      (All-take (λ o. IsNumbered numbers o (node_at nodes o.id).kind) p os b.elements)
      (All-cons (λ o. IsNumbered numbers o (node_at nodes o.id).kind) o (drop p os) one (All-drop (λ o. IsNumbered numbers o (node_at nodes o.id).kind) p os b.elements));
}

pub one_more_numbered : (numbers : List (List ℕ × ℕ)) (nodes : List Node) (os stack : List Open) (o : Open) → stack ≡ os ++ o ∷ [] →
    IsNumbered numbers o (node_at nodes o.id).kind → AreNumbered numbers nodes os → AreNumbered numbers nodes stack
one_more_numbered numbers nodes os stack o e one b = record {
  apart = b.apart;
  elements = All-same (λ o. IsNumbered numbers o (node_at nodes o.id).kind) stack (os ++ o ∷ []) e
      (All-push (λ o. IsNumbered numbers o (node_at nodes o.id).kind) os o b.elements one);
}

pub all_standing : (nodes : List Node) (os : List Open) → AllStand nodes (reverse os) → All (StandsFor nodes) os
all_standing nodes = by_ends (λ os. AllStand nodes (reverse os) → All (StandsFor nodes) os) (λ s. All-nil (StandsFor nodes)) (λ ys y more s.
    let all = subst (AllStand nodes) (reverse-append ys (y ∷ [])) s in
    All-push (StandsFor nodes) ys y (more all.1) all.0)

-- the open elements keep their names
pub still_numbered : (numbers : List (List ℕ × ℕ)) (old new : List Node) (os : List Open) → AllStand old (reverse os) →
    ((o : Open) → StandsFor old o → local_in (node_at new o.id).kind ≡ local_in (node_at old o.id).kind) →
    AreNumbered numbers old os → AreNumbered numbers new os
still_numbered numbers old new os stand same b = record {
  apart = b.apart;
  elements = λ k d lt other.
      ap (λ (word : List ℕ). number_in numbers (encode_utf8_all (lower word))) (same _ (all_standing old os stand k d lt)) ∙ b.elements k d lt other;
}

-- ---- the numbers

-- one more name has a number
pub numbers_built : (s : TreeState) (t : GrowingTree) (name : Name) (written : List ℕ) (number : ℕ) (numbers : List (List ℕ × ℕ)) →
    IsNumberFor name written number s.numbers numbers → Builds s t → Builds (record s { numbers = numbers }) t
numbers_built s t name written number numbers is b = record {
  nodes = b.nodes;
  stack = b.stack;
  numbered = record {
    apart = is.apart b.numbered.apart;
    elements = λ k d lt other. is.kept _ _ (b.numbered.elements k d lt other);
  };
  listed = b.listed;
  head = b.head;
  head_named = b.head_named;
  form = b.form;
  form_named = b.form_named;
  context = b.context;
  late = b.late;
  lone = b.lone;
}

-- the number of a name is what the map has for its text
pub number_is : {A : Type 0} → (entries : List (String A × ℕ)) (name : List ℕ) →
    lookup (is_at (λ k. slice_cmp nat_cmp name (string_bytes k))) entries ≡ number_in (numbers_of entries) name
number_is [] name = refl
number_is (e ∷ es) name =
    ap (λ b. cond b (Some e.1) (lookup (is_at (λ k. slice_cmp nat_cmp name (string_bytes k))) es)) (is_eq-slice_cmp name (string_bytes e.0))
    ∙ ap (cond (bytes_eq name (string_bytes e.0)) (Some e.1)) (number_is es name)

pub same_number : (name : Name) (written : List ℕ) (number : ℕ) (numbers : List (List ℕ × ℕ)) → number_in numbers written ≡ Some number →
    IsNumberFor name written number numbers numbers
same_number name written number numbers e = record { here = λ other. e; kept = λ other n f. f; apart = λ a. a }

-- a new name gets the next number
pub next_number : (written : List ℕ) (old new : List (List ℕ × ℕ)) → number_in old written ≡ None → length new ≡ length old + 1 →
    ((name : List ℕ) → number_in new name ≡ cond (bytes_eq written name) (Some (length old)) (number_in old name)) →
    IsNumberFor Name.Other written (length old) old new
next_number written old new none long finds = record {
  here = λ other. finds written ∙ ap (λ b. cond b (Some (length old)) (number_in old written)) ((bytes_eq-Decides written written).1 refl);
  kept = λ other n e. finds other ∙ kept other n e (bytes_eq written other) refl;
  apart = λ a. record {
    below = λ name n e. below a name n (bytes_eq written name) (sym (finds name) ∙ e);
    once = λ name other n e f. once a name other n (bytes_eq written name) (bytes_eq written other) refl refl (sym (finds name) ∙ e) (sym (finds other) ∙ f);
  };
}
  where
    kept : (other : List ℕ) (n : ℕ) → number_in old other ≡ Some n → (b : Bool) → bytes_eq written other ≡ b →
        cond b (Some (length old)) (number_in old other) ≡ Some n
    kept other n e true is = absurd (none-some _ (sym none ∙ ap (number_in old) ((bytes_eq-Decides written other).0 is) ∙ e))
    kept other n e false is = e

    below : AreApart old → (name : List ℕ) (n : ℕ) (b : Bool) → cond b (Some (length old)) (number_in old name) ≡ Some n → n < length new
    below a name n true e = omega (arith, long, same_Some _ _ e)
    below a name n false e = omega (arith, long, a.below name n e)

    once : AreApart old → (name other : List ℕ) (n : ℕ) (b c : Bool) → bytes_eq written name ≡ b → bytes_eq written other ≡ c →
        cond b (Some (length old)) (number_in old name) ≡ Some n → cond c (Some (length old)) (number_in old other) ≡ Some n → name ≡ other
    once a name other n true true one two e f = sym ((bytes_eq-Decides written name).0 one) ∙ (bytes_eq-Decides written other).0 two
    once a name other n true false one two e f = absurd (omega (arith, same_Some _ _ e, a.below other n f))
    once a name other n false true one two e f = absurd (omega (arith, same_Some _ _ f, a.below name n e))
    once a name other n false false one two e f = a.once name other n e f

-- and this in the map
pub inserted_number : {A : Type 0} → (m n : BTreeMap (String A) ℕ) (key : String A) (written : List ℕ) (number : ℕ) (was : Option ℕ) → string_bytes key ≡ written →
    number ≡ length m.entries → None ≡ number_in (numbers_of m.entries) written → was ≡ get string_cmp m key → btree_map_len n ≡ btree_map_len m + (if is_some was then 0 else 1) →
    Updates string_cmp m n key (Some number) → IsNumberFor Name.Other written number (numbers_of m.entries) (numbers_of n.entries)
inserted_number {A = A} m n key written number was spelt e none had long updates =
    let row : String A × ℕ → List ℕ × ℕ = λ entry. (string_bytes entry.0, entry.1) in
    let new : was ≡ None = had ∙ number_is m.entries (string_bytes key) ∙ ap (number_in (numbers_of m.entries)) spelt ∙ sym none in
    let more : length n.entries ≡ length m.entries + 1 = long ∙ ap (λ (o : Option ℕ). length m.entries + (if is_some o then 0 else 1)) new in
    let room : length (numbers_of m.entries) ≡ length m.entries = length-map m.entries row in
    subst (λ (k : ℕ). IsNumberFor Name.Other written k (numbers_of m.entries) (numbers_of n.entries)) (room ∙ sym e)
    (next_number written (numbers_of m.entries) (numbers_of n.entries) (sym none)
    (omega (arith, more, room, length-map n.entries row))
    (λ name. sym (number_is n.entries name) ∙ btree_map_updates_text (string_bytes key) m n (Some number) updates name
    ∙ ap (λ (w : List ℕ). cond (bytes_eq w name) (Some number) (get_by_text m name)) spelt
    ∙ ap (λ (k : ℕ). cond (bytes_eq written name) (Some k) (get_by_text m name)) (e ∙ sym room)
    ∙ ap (cond (bytes_eq written name) (Some (length (numbers_of m.entries)))) (number_is m.entries name)))
