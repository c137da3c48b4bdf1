-- Any other end tag with a name that is not in `Name`: what the search by the number of the name finds is what the definition searches for.
use Rattle.std.proofs.Common.{◌≡◌, ℕ, Bool, true, false, ◌&&◌, ◌||◌, not, List, [], ◌∷◌, ◌++◌, codes, eqb, inl, inr, length, reverse, take, ◌+◌, rules, refl, sym, ap, subst, ◌∙◌, true≢false, if◌then◌else◌}
use Rattle.std.specs.Prelude.{All, None, Option, Some, encode_utf8_all}
use Rattle.std.specs.Str.{bytes_eq}
use denote.Enum.Bare.{tag_one}
use denote.Enum.Declared.{tag_of}
use Rattle.std.proofs.lemmas.Bool.{cases_Bool, eq-eqb, eqb-true}
use Rattle.std.proofs.lemmas.List.{reverse-append}
use Rattle.std.proofs.lemmas.List.Elements.{All-pop}
use Rattle.std.proofs.lemmas.Option.{none-some, same_Some}
use Rattle.std.proofs.lemmas.Slice.Eq.{bytes_eq-Decides}
use Rattle.std.proofs.lemmas.Str.{encodes_same}
use Rattle.standard_trees.specs.Building.{adjusted}
use Rattle.standard_trees.specs.GrowingTree.{GrowingTree, in_scope, is_among, kind_of, lower}
use Rattle.standard_trees.specs.GrowingTree.{is_one as is_one_of}
use Rattle.standard_trees.specs.NameLists.{special, svg_names}
use Rattle.standard_trees.specs.TreeStore.{Kind, is_member, key_in, local_in}
use Rattle.page_trees.specs.Closing.{IsFoundAt, closed_before, is_special_node}
use Rattle.page_trees.specs.NameNumbers.{AreApart, IsNumbered, number_in}
use Rattle.page_trees.specs.Names.{name_of}
use Rattle.page_trees.specs.Scopes.{is_name, last_place}
use Rattle.page_trees.specs.SearchIndex.{has_key}
use Rattle.page_trees.specs.Sets.{is_in_html, is_special_element, key_for, local_for}
use Rattle.page_trees.specs.Stands.{Builds, IsOfKind, IsOtherName, IsTagName, StandsFor}
use Rattle.page_trees.specs.TreeState.{TreeState}
use Rattle.page_trees.specs.contracts.name.Name.{the_type}
use Rattle.page_trees.specs.declared.name.Name.{Name}
use Rattle.page_trees.specs.declared.stack.ElementNamespace.{ElementNamespace}
use Rattle.page_trees.specs.declared.stack.Open.{Open}
use Rattle.page_trees.proofs.AlikeLemmas.{other_key}
use Rattle.page_trees.proofs.ClosedElements.{AgreeAt, closed_there, nothing_there, special_known}
use Rattle.page_trees.proofs.NumberedNames.{all_standing}
use Rattle.page_trees.proofs.ScopeLemmas.{by_ends, last_place_push}
use Rattle.page_trees.proofs.StandingNames.{one_agrees}

-- ---- one element

pub other_name : (name : Name) → is_name name Name.Other ≡ true → name ≡ Name.Other
other_name name h = tag_one the_type (search rules) name Name.Other (eqb-true (tag_of the_type name) (tag_of the_type Name.Other) h)

same_bool : (b c : Bool) → (b ≡ true → c ≡ true) → (c ≡ true → b ≡ true) → b ≡ c
same_bool true true f g = refl
same_bool true false f g = sym (f refl)
same_bool false true f g = g refl
same_bool false false f g = refl

or_none : (b : Bool) → b ≡ (b || false)
or_none true = refl
or_none false = refl

-- a name without spaces is no key of a foreign element
no_key : (key text : List ℕ) → is_member 32 key ≡ true → is_member 32 text ≡ false → bytes_eq key text ≡ false
no_key key text spaced unspaced = elim (cases_Bool (bytes_eq key text)) [
  | inl e ↦ absurd (true≢false (sym spaced ∙ ap (is_member 32) ((bytes_eq-Decides key text).0 e) ∙ unspaced))
  | inr f ↦ f
]

-- the element has that name: it is an HTML element, and its tag was written so
named_so : (ns : ElementNamespace) (written text : List ℕ) → IsTagName text → bytes_eq (key_for ns written) text ≡ (is_in_html ns && bytes_eq written text)
named_so ElementNamespace.Html written text tag = refl
named_so ElementNamespace.Svg written text tag = no_key (codes "svg " ++ adjusted svg_names written) text refl tag.unspaced
named_so ElementNamespace.MathMl written text tag = no_key (codes "math " ++ written) text refl tag.unspaced

one_named : (t : GrowingTree) (o : Open) (text : List ℕ) → IsTagName text → (s : StandsFor t.nodes o) →
    is_one_of t (text ∷ []) o.id ≡ (is_in_html o.ns && bytes_eq s.written text)
one_named t o text tag s =
    ap (λ (kind : Kind). is_among (key_in kind) (text ∷ [])) s.kind ∙ sym (or_none (bytes_eq (key_for o.ns s.written) text)) ∙ named_so o.ns s.written text tag

-- an HTML element with a name that is not in `Name` has the number of its name
own_number : (numbers : List (List ℕ × ℕ)) (o : Open) (kind : Kind) → is_in_html o.ns ≡ true → o.name ≡ Name.Other → (s : IsOfKind o kind) → IsNumbered numbers o kind →
    number_in numbers (encode_utf8_all s.written) ≡ Some o.number
own_number numbers o kind html other s has =
    ap (number_in numbers) (ap encode_utf8_all (sym (ap (λ (k : Kind). lower (local_in k)) s.kind ∙ by o.ns html))) ∙ has other
  where
    by : (ns : ElementNamespace) → is_in_html ns ≡ true → lower (local_for ns s.written) ≡ s.written
    by ElementNamespace.Html h = s.tag.lower_case
    by ElementNamespace.Svg h = absurd (true≢false (sym h))
    by ElementNamespace.MathMl h = absurd (true≢false (sym h))

-- a name is that of the tag, if it is not in `Name`, exactly where its number is
same_written : (numbers : List (List ℕ × ℕ)) (o : Open) (kind : Kind) (text : List ℕ) (number : ℕ) → AreApart numbers → name_of text ≡ Name.Other →
    number_in numbers (encode_utf8_all text) ≡ Some number → is_in_html o.ns ≡ true → (s : IsOfKind o kind) → IsNumbered numbers o kind →
    (is_name o.name Name.Other && eqb o.number number) ≡ bytes_eq s.written text
same_written numbers o kind text number apart unknown is html s has = by (is_name o.name Name.Other) refl
  where
    by : (b : Bool) → is_name o.name Name.Other ≡ b → (b && eqb o.number number) ≡ bytes_eq s.written text
    by true e =
        let own = own_number numbers o kind html (other_name o.name e) s has in
        same_bool (eqb o.number number) (bytes_eq s.written text)
        (λ f. (bytes_eq-Decides s.written text).1 (encodes_same s.written text
        (apart.once (encode_utf8_all s.written) (encode_utf8_all text) number (own ∙ ap Some (eqb-true o.number number f)) is)))
        (λ f. eq-eqb o.number number (same_Some _ _ (sym own ∙ ap (λ (w : List ℕ). number_in numbers (encode_utf8_all w)) ((bytes_eq-Decides s.written text).0 f) ∙ is)))
    by false e = elim (cases_Bool (bytes_eq s.written text)) [
      | inl f ↦ absurd (true≢false (sym (ap (λ (n : Name). is_name n Name.Other) (s.name ∙ ap name_of ((bytes_eq-Decides s.written text).0 f) ∙ unknown)) ∙ e))
      | inr f ↦ sym f
    ]

sought : (numbers : List (List ℕ × ℕ)) (t : GrowingTree) (o : Open) (text : List ℕ) (number : ℕ) → AreApart numbers → IsTagName text → name_of text ≡ Name.Other →
    number_in numbers (encode_utf8_all text) ≡ Some number → StandsFor t.nodes o → IsNumbered numbers o (kind_of t o.id) →
    has_key true Name.Other number o ≡ is_one_of t (text ∷ []) o.id
sought numbers t o text number apart tag unknown is s has = other_key number o ∙ by (is_in_html o.ns) refl ∙ sym (one_named t o text tag s)
  where
    by : (b : Bool) → is_in_html o.ns ≡ b → (b && (is_name o.name Name.Other && eqb o.number number)) ≡ (b && bytes_eq s.written text)
    by true e = same_written numbers o (kind_of t o.id) text number apart unknown is e s has
    by false e = refl

unsought : (numbers : List (List ℕ × ℕ)) (t : GrowingTree) (o : Open) (text : List ℕ) → IsTagName text → name_of text ≡ Name.Other →
    number_in numbers (encode_utf8_all text) ≡ None → StandsFor t.nodes o → IsNumbered numbers o (kind_of t o.id) → false ≡ is_one_of t (text ∷ []) o.id
unsought numbers t o text tag unknown none s has = by (is_in_html o.ns) (bytes_eq s.written text) refl refl ∙ sym (one_named t o text tag s)
  where
    by : (b c : Bool) → is_in_html o.ns ≡ b → bytes_eq s.written text ≡ c → false ≡ (b && c)
    by true true e f =
        let same : s.written ≡ text = (bytes_eq-Decides s.written text).0 f in
        let own = own_number numbers o (kind_of t o.id) e (s.name ∙ ap name_of same ∙ unknown) s has in
        absurd (none-some _ (sym none ∙ ap (λ (w : List ℕ). number_in numbers (encode_utf8_all w)) (sym same) ∙ own))
    by true false e f = refl
    by false c e f = refl

-- ---- searches

-- two tests that agree on all elements find the same
pub last_as : (p q : Open → Bool) (all : List Open) → All (λ o. p o ≡ q o) all → last_place p all ≡ last_place q all
last_as p q = by_ends (λ xs. All (λ o. p o ≡ q o) xs → last_place p xs ≡ last_place q xs) (λ a. refl) (λ ys y more a.
    let parts = All-pop (λ o. p o ≡ q o) (ys ++ y ∷ []) ys (Some y) refl a in
    last_place_push p ys y ∙ ap (λ b. if b then length ys + 1 else last_place p ys) parts.1 ∙ ap (λ n. if q y then length ys + 1 else n) (more parts.0)
    ∙ sym (last_place_push q ys y))

scope_as : (p q ends : Open → Bool) (all : List Open) → All (λ o. p o ≡ q o) all → in_scope p ends (reverse all) ≡ in_scope q ends (reverse all)
scope_as p q ends = by_ends (λ xs. All (λ o. p o ≡ q o) xs → in_scope p ends (reverse xs) ≡ in_scope q ends (reverse xs)) (λ a. refl) (λ ys y more a.
    let parts = All-pop (λ o. p o ≡ q o) (ys ++ y ∷ []) ys (Some y) refl a in
    ap (in_scope p ends) (reverse-append ys (y ∷ [])) ∙ ap (λ b. b || (not (ends y) && in_scope p ends (reverse ys))) parts.1
    ∙ ap (λ b. q y || (not (ends y) && b)) (more parts.0) ∙ sym (ap (in_scope q ends) (reverse-append ys (y ∷ []))))

found_as : (p q ends : Open → Bool) (all : List Open) (r : Option ℕ) → All (λ o. p o ≡ q o) all → IsFoundAt p ends all r → IsFoundAt q ends all r
found_as p q ends all None same is = sym (scope_as p q ends all same) ∙ is
found_as p q ends all (Some place) same is = (sym (scope_as p q ends all same) ∙ is.0, is.1 ∙ last_as p q all same)

never : (ends : Open → Bool) (os : List Open) → in_scope (λ (o : Open). false) ends os ≡ false
never ends [] = refl
never ends (o ∷ os) = by (ends o) (never ends os)
  where
    by : (b : Bool) → in_scope (λ (o : Open). false) ends os ≡ false → (false || (not b && in_scope (λ (o : Open). false) ends os)) ≡ false
    by true none = refl
    by false none = none

agrees : (t : GrowingTree) (text : List ℕ) → AgreeAt t (λ o. is_one_of t (text ∷ []) o.id) is_special_element is_special_node (text ∷ [])
agrees t text = record { sought = λ o s. refl; ended = λ o s. one_agrees special special_known t o s }

-- ---- any other end tag

-- the element at the place is closed
pub other_closed : (view old new : TreeState) (name : Name) (bytes text : List ℕ) (t : GrowingTree) (number place : ℕ) → view ≡ old → Builds old t → IsOtherName name bytes text →
    Some number ≡ number_in old.numbers bytes → IsFoundAt (has_key true name number) is_special_element view.stack (Some place) →
    new ≡ record old { stack = take place old.stack } → Builds new (closed_before is_special_node (text ∷ []) t)
other_closed view old new name bytes text t number place v built is finds found e =
    let b : Builds view t = subst (λ (s : TreeState). Builds s t) (sym v) built in
    let here : IsFoundAt (has_key true Name.Other number) is_special_element view.stack (Some place) =
    subst (λ (n : Name). IsFoundAt (has_key true n number) is_special_element view.stack (Some place)) is.other found in
    let of_text : number_in view.numbers (encode_utf8_all text) ≡ Some number =
    ap (λ (s : TreeState). number_in s.numbers (encode_utf8_all text)) v ∙ ap (number_in old.numbers) (sym is.spelt) ∙ sym finds in
    closed_there (λ o. is_one_of t (text ∷ []) o.id) is_special_element is_special_node (text ∷ []) view old new t (agrees t text) place v built
    (found_as (has_key true Name.Other number) (λ o. is_one_of t (text ∷ []) o.id) is_special_element view.stack (Some place)
    (λ k d lt. sought view.numbers t _ text number b.numbered.apart is.tag is.unknown of_text (all_standing t.nodes view.stack b.stack.nodes k d lt) (b.numbered.elements k d lt)) here) e

-- no element with the name was found
pub other_missed : (view old : TreeState) (name : Name) (bytes text : List ℕ) (t : GrowingTree) (number : ℕ) → view ≡ old → Builds old t → IsOtherName name bytes text →
    Some number ≡ number_in old.numbers bytes → IsFoundAt (has_key true name number) is_special_element view.stack None →
    Builds old (closed_before is_special_node (text ∷ []) t)
other_missed view old name bytes text t number v built is finds found =
    let b : Builds view t = subst (λ (s : TreeState). Builds s t) (sym v) built in
    let here : IsFoundAt (has_key true Name.Other number) is_special_element view.stack None =
    subst (λ (n : Name). IsFoundAt (has_key true n number) is_special_element view.stack None) is.other found in
    let of_text : number_in view.numbers (encode_utf8_all text) ≡ Some number =
    ap (λ (s : TreeState). number_in s.numbers (encode_utf8_all text)) v ∙ ap (number_in old.numbers) (sym is.spelt) ∙ sym finds in
    nothing_there (λ o. is_one_of t (text ∷ []) o.id) is_special_element is_special_node (text ∷ []) view old t (agrees t text) v built
    (found_as (has_key true Name.Other number) (λ o. is_one_of t (text ∷ []) o.id) is_special_element view.stack None
    (λ k d lt. sought view.numbers t _ text number b.numbered.apart is.tag is.unknown of_text (all_standing t.nodes view.stack b.stack.nodes k d lt) (b.numbered.elements k d lt)) here)

-- no element has had the name
pub other_unknown : (view old : TreeState) (name : Name) (bytes text : List ℕ) (t : GrowingTree) → view ≡ old → Builds old t → IsOtherName name bytes text →
    None ≡ number_in view.numbers bytes → Builds old (closed_before is_special_node (text ∷ []) t)
other_unknown view old name bytes text t v built is none =
    let b : Builds view t = subst (λ (s : TreeState). Builds s t) (sym v) built in
    nothing_there (λ o. is_one_of t (text ∷ []) o.id) is_special_element is_special_node (text ∷ []) view old t (agrees t text) v built
    (found_as (λ o. false) (λ o. is_one_of t (text ∷ []) o.id) is_special_element view.stack None
    (λ k d lt. unsought view.numbers t _ text is.tag is.unknown (ap (number_in view.numbers) (sym is.spelt) ∙ sym none)
    (all_standing t.nodes view.stack b.stack.nodes k d lt) (b.numbered.elements k d lt)) (never is_special_element (reverse view.stack)))
