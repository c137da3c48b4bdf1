-- An open element is one of a list of names exactly where the node that it stands for is.
use Rattle.std.proofs.Common.{◌≡◌, ◌⊎◌, inl, inr, ℕ, Bool, true, false, ◌&&◌, ◌||◌, not, List, [], ◌∷◌, cond, drop, map, nat_eq, ◌++◌, reverse, rules, refl, sym, ap, subst, ◌∙◌, codes, if◌then◌else◌, true≢false}
use Rattle.std.proofs.lemmas.Slice.Eq.{bytes_eq-Decides}
use Rattle.std.specs.List.{find, list_all, starts_with}
use Rattle.std.specs.Option.{option_map_or, unwrap_or}
use Rattle.std.specs.Prelude.{None, Option, Some}
use Rattle.std.specs.Str.{bytes_eq}
use Rattle.standard_trees.specs.Building.{adjusted}
use denote.Enum.Bare.{tag_one}
use denote.Enum.Declared.{tag_of}
use Rattle.std.proofs.lemmas.Bool.{cases_Bool, eqb-false, eqb-true}
use Rattle.standard_trees.specs.GrowingTree.{GrowingTree, has_in_scope, in_scope, is_among, is_named as is_of_kind, kind_of, lower}
use Rattle.standard_trees.specs.GrowingTree.{ends_scope as ends_scope_of, is_one as is_one_of}
use Rattle.standard_trees.specs.NameLists.{svg_names}
use Rattle.standard_trees.specs.TreeStore.{Kind, is_member, key_in}
use Rattle.page_trees.specs.Names.{html_rows, name_of, rare_rows, row_for, text_of}
use Rattle.page_trees.specs.Scopes.{ends_in, has_name, is_name, is_named, scope_names}
use Rattle.page_trees.specs.Sets.{is_in_html, is_one, is_one_in, key_for}
use Rattle.page_trees.specs.Stands.{AllStand, IsCurrent, IsOfKind, IsStackOf, IsTagName, StandsFor, scope_kind}
use Rattle.page_trees.specs.contracts.name.Name.{the_type}
use Rattle.page_trees.specs.declared.name.Name.{Name}
use Rattle.page_trees.specs.declared.sets.Scope.{Scope}
use Rattle.page_trees.specs.declared.stack.ElementNamespace.{ElementNamespace}
use Rattle.page_trees.specs.declared.stack.Open.{Open}
use Rattle.page_trees.proofs.NamesAgree.{again, both, for_all}

-- ---- the text of a name

abbrev sound : List (List ℕ × Name) → Bool
sound rows = list_all (λ row. bytes_eq (text_of row.1) row.0) rows

row_text : (rows : List (List ℕ × Name)) (otherwise : Name) (text : List ℕ) → sound rows ≡ true →
    (row_for rows otherwise text ≡ otherwise) ⊎ (text_of (row_for rows otherwise text) ≡ text)
row_text [] otherwise text h = inl refl
row_text (row ∷ rows) otherwise text h =
    let parts = both (bytes_eq (text_of row.1) row.0) (sound rows) h in
    by_test ((bytes_eq-Decides (text_of row.1) row.0).0 parts.0) (row_text rows otherwise text parts.1) (bytes_eq row.0 text) refl
  where
    by_test : text_of row.1 ≡ row.0 → (row_for rows otherwise text ≡ otherwise) ⊎ (text_of (row_for rows otherwise text) ≡ text) →
        (b : Bool) → bytes_eq row.0 text ≡ b →
        ((if b then row.1 else row_for rows otherwise text) ≡ otherwise) ⊎ (text_of (if b then row.1 else row_for rows otherwise text) ≡ text)
    by_test first others true e = inr (first ∙ (bytes_eq-Decides row.0 text).0 e)
    by_test first others false e = others

html_sound : sound html_rows ≡ true
unfolding html_rows
html_sound = refl

rare_sound : sound rare_rows ≡ true
unfolding rare_rows
rare_sound = refl

pub text_again : (text : List ℕ) → (name_of text ≡ Name.Other) ⊎ (text_of (name_of text) ≡ text)
text_again text = elim (row_text rare_rows (row_for html_rows Name.Other text) text rare_sound) [
  | inl e ↦ elim (row_text html_rows Name.Other text html_sound) [ inl other ↦ inl (e ∙ other) | inr same ↦ inr (ap text_of e ∙ same) ]
  | inr same ↦ inr same
]

-- ---- names that no rule mentions

abbrev is_other : Name → Bool
is_other Name.Other = true
is_other _ = false

abbrev knows : List ℕ → Bool
knows text = not (is_other (name_of text))

-- the element with this key has a name that `Name` has, if it is in that namespace
abbrev covers : ElementNamespace → List ℕ → Bool
covers ElementNamespace.Html key = is_member 32 key || knows key
covers ElementNamespace.Svg key = not (starts_with nat_eq key (codes "svg ")) || knows (lower (drop 4 key))
covers ElementNamespace.MathMl key = not (starts_with nat_eq key (codes "math ")) || knows (drop 5 key)

pub lower_adjusted : (names : List (List ℕ)) (name : List ℕ) → lower name ≡ name → lower (adjusted names name) ≡ name
lower_adjusted [] name e = e
lower_adjusted (one ∷ names) name e = by_test (lower_adjusted names name e) (bytes_eq (lower one) name) refl
  where
    by_test : lower (adjusted names name) ≡ name → (b : Bool) → bytes_eq (lower one) name ≡ b →
        lower (unwrap_or (cond b (Some one) (find (λ one. bytes_eq (lower one) name) names)) name) ≡ name
    by_test others true k = (bytes_eq-Decides (lower one) name).0 k
    by_test others false k = others

not_covered : (ns : ElementNamespace) (written : List ℕ) → IsTagName written → name_of written ≡ Name.Other → covers ns (key_for ns written) ≡ false
not_covered ElementNamespace.Html written tag e =
    ap (λ b. b || knows written) tag.unspaced ∙ ap (λ n. not (is_other n)) e
not_covered ElementNamespace.Svg written tag e =
    ap (λ text. not (is_other (name_of text))) (lower_adjusted svg_names written tag.lower_case) ∙ ap (λ n. not (is_other n)) e
not_covered ElementNamespace.MathMl written tag e = ap (λ n. not (is_other n)) e

unlisted : (ns : ElementNamespace) (names : List (List ℕ)) (written : List ℕ) → IsTagName written → name_of written ≡ Name.Other →
    list_all (covers ns) names ≡ true → is_among (key_for ns written) names ≡ false
unlisted ns [] written tag e h = refl
unlisted ns (name ∷ names) written tag e h =
    let parts = both (covers ns name) (list_all (covers ns) names) h in
    by_test parts.0 (unlisted ns names written tag e parts.1) (bytes_eq (key_for ns written) name) refl
  where
    by_test : covers ns name ≡ true → is_among (key_for ns written) names ≡ false → (b : Bool) → bytes_eq (key_for ns written) name ≡ b →
        (b || is_among (key_for ns written) names) ≡ false
    by_test first others true k =
        absurd (true≢false (sym first ∙ ap (covers ns) (sym ((bytes_eq-Decides (key_for ns written) name).0 k)) ∙ not_covered ns written tag e))
    by_test first others false k = others

-- ---- lists of names that `Name` has

abbrev pub are_known : List (List ℕ) → Bool
are_known names = list_all (covers ElementNamespace.Html) names && (list_all (covers ElementNamespace.Svg) names && list_all (covers ElementNamespace.MathMl) names)

known_in : (ns : ElementNamespace) (names : List (List ℕ)) → are_known names ≡ true → list_all (covers ns) names ≡ true
known_in ElementNamespace.Html names h = (both (list_all (covers ElementNamespace.Html) names) (list_all (covers ElementNamespace.Svg) names && list_all (covers ElementNamespace.MathMl) names) h).0
known_in ElementNamespace.Svg names h = (both (list_all (covers ElementNamespace.Svg) names) (list_all (covers ElementNamespace.MathMl) names)
    (both (list_all (covers ElementNamespace.Html) names) (list_all (covers ElementNamespace.Svg) names && list_all (covers ElementNamespace.MathMl) names) h).1).0
known_in ElementNamespace.MathMl names h = (both (list_all (covers ElementNamespace.Svg) names) (list_all (covers ElementNamespace.MathMl) names)
    (both (list_all (covers ElementNamespace.Html) names) (list_all (covers ElementNamespace.Svg) names && list_all (covers ElementNamespace.MathMl) names) h).1).1

nameless : name_of [] ≡ Name.Other
unfolding html_rows rare_rows
nameless = refl

no_name : IsTagName []
no_name = record { lower_case = refl; unspaced = refl }

pub key_agrees : (names : List (List ℕ)) → are_known names ≡ true → (ns : ElementNamespace) (written : List ℕ) → IsTagName written →
    is_one_in names ns (name_of written) ≡ is_among (key_for ns written) names
key_agrees names h ns written tag = elim (text_again written) [
  | inr same ↦ ap (λ text. is_among (key_for ns text) names) same
  | inl other ↦ ap (is_one_in names ns) other ∙ unlisted ns names [] no_name nameless (known_in ns names h)
      ∙ sym (unlisted ns names written tag other (known_in ns names h))
]

pub kind_agrees : (names : List (List ℕ)) → are_known names ≡ true → (o : Open) (kind : Kind) → IsOfKind o kind → is_one names o ≡ is_of_kind names kind
kind_agrees names h o kind s =
    ap (is_one_in names o.ns) s.name ∙ key_agrees names h o.ns s.written s.tag ∙ ap (λ kind. is_among (key_in kind) names) (sym s.kind)

pub one_agrees : (names : List (List ℕ)) → are_known names ≡ true → (t : GrowingTree) (o : Open) → StandsFor t.nodes o →
    is_one names o ≡ is_one_of t names o.id
one_agrees names h t o s = kind_agrees names h o (kind_of t o.id) s

-- ---- one name

same_bool : (b c : Bool) → (b ≡ true → c ≡ true) → (c ≡ true → b ≡ true) → b ≡ c
same_bool true true f g = refl
same_bool true false f g = sym (f refl)
same_bool false true f g = g refl
same_bool false false f g = refl

is_name_self : (name : Name) → is_name name name ≡ true
is_name_self name = elim (cases_Bool (is_name name name)) [ inl t ↦ t | inr f ↦ absurd (eqb-false (tag_of the_type name) (tag_of the_type name) f refl) ]

not_true : (b : Bool) → not b ≡ true → b ≡ false
not_true true e = sym e
not_true false e = refl

or_false : (b : Bool) → b ≡ (b || false)
or_false true = refl
or_false false = refl

pub same_text : (name other : Name) → bytes_eq (text_of name) (text_of other) ≡ is_name name other
same_text name other = same_bool (bytes_eq (text_of name) (text_of other)) (is_name name other)
    (λ e. subst (λ n. is_name name n ≡ true) (sym (again name) ∙ ap name_of ((bytes_eq-Decides (text_of name) (text_of other)).0 e) ∙ again other) (is_name_self name))
    (λ e. subst (λ n. bytes_eq (text_of name) (text_of n) ≡ true) (tag_one the_type (search rules) name other (eqb-true (tag_of the_type name) (tag_of the_type other) e))
    ((bytes_eq-Decides (text_of name) (text_of name)).1 refl))

no_svg : (text : List ℕ) (name : Name) → bytes_eq (codes "svg " ++ text) (text_of name) ≡ false
unfolding html_rows rare_rows
no_svg text name = not_true (bytes_eq (codes "svg " ++ text) (text_of name)) (for_all (λ n. not (bytes_eq (codes "svg " ++ text) (text_of n))) refl name)

no_mathml : (text : List ℕ) (name : Name) → bytes_eq (codes "math " ++ text) (text_of name) ≡ false
unfolding html_rows rare_rows
no_mathml text name = not_true (bytes_eq (codes "math " ++ text) (text_of name)) (for_all (λ n. not (bytes_eq (codes "math " ++ text) (text_of n))) refl name)

named_in : (name : Name) → is_name name Name.Other ≡ false → (ns : ElementNamespace) (other : Name) →
    (not (is_name name Name.Other) && (is_in_html ns && is_name other name)) ≡ is_one_in (text_of name ∷ []) ns other
named_in name known ElementNamespace.Html other =
    ap (λ b. not b && is_name other name) known ∙ sym (same_text other name) ∙ or_false (bytes_eq (text_of other) (text_of name))
named_in name known ElementNamespace.Svg other =
    ap (λ b. not b && false) known ∙ ap (λ b. b || false) (sym (no_svg (adjusted svg_names (text_of other)) name))
named_in name known ElementNamespace.MathMl other =
    ap (λ b. not b && false) known ∙ ap (λ b. b || false) (sym (no_mathml (text_of other) name))

-- the HTML elements with a name are those of the list of that name
pub named_is_one : (name : Name) → is_name name Name.Other ≡ false → (o : Open) → is_named name o ≡ is_one (text_of name ∷ []) o
named_is_one name known o = named_in name known o.ns o.name

one_known : (name : Name) → is_name name Name.Other ≡ false → are_known (text_of name ∷ []) ≡ true
unfolding html_rows rare_rows
one_known name known = by_name (is_name name Name.Other) known (for_all (λ n. is_name n Name.Other || are_known (text_of n ∷ [])) refl name)
  where
    by_name : (b : Bool) → b ≡ false → (b || are_known (text_of name ∷ [])) ≡ true → are_known (text_of name ∷ []) ≡ true
    by_name true k h = absurd (true≢false k)
    by_name false k h = h

-- a name that is known is not empty
no_text : (name : Name) → is_name name Name.Other ≡ false → is_among [] (text_of name ∷ []) ≡ false
unfolding html_rows rare_rows
no_text name known = by_name (is_name name Name.Other) known (for_all (λ n. is_name n Name.Other || not (is_among [] (text_of n ∷ []))) refl name)
  where
    by_name : (b : Bool) → b ≡ false → (b || not (is_among [] (text_of name ∷ []))) ≡ true → is_among [] (text_of name ∷ []) ≡ false
    by_name true k h = absurd (true≢false k)
    by_name false k h = not_true (is_among [] (text_of name ∷ [])) h

-- the same of the current node, which is the Document where none is open
pub current_named : (name : Name) → is_name name Name.Other ≡ false → (r : Option Open) (kind : Kind) → IsCurrent r kind →
    option_map_or (has_name name) r false ≡ is_of_kind (text_of name ∷ []) kind
current_named name known None kind is = sym (ap (is_of_kind (text_of name ∷ [])) is ∙ no_text name known)
current_named name known (Some o) kind is =
    ap (λ b. not b && has_name name o) (sym known) ∙ named_is_one name known o ∙ kind_agrees (text_of name ∷ []) (one_known name known) o kind is

pub named_agrees : (name : Name) → is_name name Name.Other ≡ false → (t : GrowingTree) (o : Open) → StandsFor t.nodes o →
    is_named name o ≡ is_one_of t (text_of name ∷ []) o.id
named_agrees name known t o s = named_is_one name known o ∙ one_agrees (text_of name ∷ []) (one_known name known) t o s

-- ---- searches

pub searched : (wanted ends : Open → Bool) (w e : ℕ → Bool) (t : GrowingTree) → ((o : Open) → StandsFor t.nodes o → wanted o ≡ w o.id) →
    ((o : Open) → StandsFor t.nodes o → ends o ≡ e o.id) → (os : List Open) → AllStand t.nodes os →
    in_scope wanted ends os ≡ in_scope w e (map (λ o. o.id) os)
searched wanted ends w e t same_wanted same_ends [] s = refl
searched wanted ends w e t same_wanted same_ends (o ∷ os) s =
    ap (λ b. b || (not (ends o) && in_scope wanted ends os)) (same_wanted o s.0)
    ∙ ap (λ b. w o.id || (not b && in_scope wanted ends os)) (same_ends o s.0)
    ∙ ap (λ b. w o.id || (not (e o.id) && b)) (searched wanted ends w e t same_wanted same_ends os s.1)

scopes_known : (kind : Scope) → are_known (scope_names kind) ≡ true
unfolding html_rows rare_rows
scopes_known Scope.Default = refl
scopes_known Scope.ListItem = refl
scopes_known Scope.Button = refl
scopes_known Scope.Table = refl

ends_agree : (kind : Scope) (t : GrowingTree) (o : Open) → StandsFor t.nodes o → ends_in kind o ≡ ends_scope_of (scope_kind kind) t o.id
ends_agree Scope.Default t o s = one_agrees (scope_names Scope.Default) (scopes_known Scope.Default) t o s
ends_agree Scope.ListItem t o s = one_agrees (scope_names Scope.ListItem) (scopes_known Scope.ListItem) t o s
ends_agree Scope.Button t o s = one_agrees (scope_names Scope.Button) (scopes_known Scope.Button) t o s
ends_agree Scope.Table t o s = one_agrees (scope_names Scope.Table) (scopes_known Scope.Table) t o s

pub scope_agrees : (name : Name) → is_name name Name.Other ≡ false → (kind : Scope) (t : GrowingTree) (elements : List Open) → IsStackOf t elements →
    in_scope (is_named name) (ends_in kind) (reverse elements) ≡ has_in_scope (scope_kind kind) (text_of name ∷ []) t
scope_agrees name known kind t elements s =
    searched (is_named name) (ends_in kind) (is_one_of t (text_of name ∷ [])) (ends_scope_of (scope_kind kind) t) t
    (named_agrees name known t) (ends_agree kind t) (reverse elements) s.nodes
    ∙ ap (in_scope (is_one_of t (text_of name ∷ [])) (ends_scope_of (scope_kind kind) t)) (sym s.ids)
