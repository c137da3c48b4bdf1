-- Elements that are popped off the stack are popped off the definition's stack.
use Rattle.std.proofs.Common.{◌≡◌, ℕ, Bool, true, false, ◌&&◌, not, List, [], ◌∷◌, ◌++◌, map, reverse, refl, sym, ap, subst, ◌∙◌, if◌then◌else◌}
use Rattle.std.specs.Prelude.{IfSome, None, Option, Some}
use Rattle.std.proofs.lemmas.List.{reverse-append}
use Rattle.standard_trees.specs.GrowingTree.{GrowingTree, beyond, implied_of, is_foreign, kind_of, popped_up_to, with_stack}
use Rattle.standard_trees.specs.GrowingTree.{is_one as is_one_of}
use Rattle.standard_trees.specs.NameLists.{implied, text_points}
use Rattle.standard_trees.specs.TreeStore.{Node, is_html, space_in}
use Rattle.page_trees.specs.Names.{html_rows, rare_rows}
use Rattle.page_trees.specs.Popping.{up_to_last}
use Rattle.page_trees.specs.Scopes.{has_name, is_excepted, is_implied_but, is_name}
use Rattle.page_trees.specs.Sets.{context_names, ends_context, has_foreign_content, has_html_content, is_a_text_point, is_an_html_point, is_in_html}
use Rattle.page_trees.specs.Sets.{space_of}
use Rattle.page_trees.specs.Stands.{AllStand, IsStackOf, StandsFor, text_list}
use Rattle.page_trees.specs.declared.name.Name.{Name}
use Rattle.page_trees.specs.declared.sets.TableContext.{TableContext}
use Rattle.page_trees.specs.declared.stack.ElementNamespace.{ElementNamespace}
use Rattle.page_trees.specs.declared.stack.Open.{Open}
use Rattle.page_trees.proofs.PoppingLemmas.{up_to_last_push}
use Rattle.page_trees.proofs.ScopeLemmas.{by_ends}
use Rattle.page_trees.proofs.StandingNames.{are_known, named_agrees, one_agrees}

-- ---- the elements from the first that passes a test on

abbrev from_first : (Open → Bool) → List Open → List Open
from_first p [] = []
from_first p (o ∷ os) = if p o then o ∷ os else from_first p os

turned : (p : Open → Bool) (ys : List Open) (y : Open) (b : Bool) → reverse (up_to_last p ys) ≡ from_first p (reverse ys) →
    reverse (if b then ys ++ y ∷ [] else up_to_last p ys) ≡ (if b then y ∷ reverse ys else from_first p (reverse ys))
turned p ys y true e = reverse-append ys (y ∷ [])
turned p ys y false e = e

outwards : (p : Open → Bool) (all : List Open) → reverse (up_to_last p all) ≡ from_first p (reverse all)
outwards p = by_ends (λ xs. reverse (up_to_last p xs) ≡ from_first p (reverse xs)) refl (λ ys y e.
    ap (λ (os : List Open). reverse os) (up_to_last_push p ys y) ∙ turned p ys y (p y) e ∙ ap (from_first p) (sym (reverse-append ys (y ∷ []))))

beyond_is : (nodes : List Node) (p : Open → Bool) (q : ℕ → Bool) → ((o : Open) → StandsFor nodes o → not (p o) ≡ q o.id) →
    (os : List Open) → AllStand nodes os → beyond q (map (λ o. o.id) os) ≡ map (λ o. o.id) (from_first p os)
beyond_is nodes p q same [] s = refl
beyond_is nodes p q same (o ∷ os) s = by_test (p o) (q o.id) (same o s.0) (beyond_is nodes p q same os s.1)
  where
    by_test : (b c : Bool) → not b ≡ c → beyond q (map (λ o. o.id) os) ≡ map (λ o. o.id) (from_first p os) →
        (elim c [ true ↦ beyond q (map (λ o. o.id) os) | false ↦ o.id ∷ map (λ o. o.id) os ]) ≡ map (λ o. o.id) (if b then o ∷ os else from_first p os)
    by_test true c e others = ap (λ d. elim d [ true ↦ beyond q (map (λ o. o.id) os) | false ↦ o.id ∷ map (λ o. o.id) os ]) (sym e)
    by_test false c e others =
        ap (λ d. elim d [ true ↦ beyond q (map (λ o. o.id) os) | false ↦ o.id ∷ map (λ o. o.id) os ]) (sym e) ∙ others

still : (nodes : List Node) (p : Open → Bool) (os : List Open) → AllStand nodes os → AllStand nodes (from_first p os)
still nodes p [] s = s
still nodes p (o ∷ os) s = by_test (p o) s (still nodes p os s.1)
  where
    by_test : (b : Bool) → AllStand nodes (o ∷ os) → AllStand nodes (from_first p os) → AllStand nodes (if b then o ∷ os else from_first p os)
    by_test true all others = all
    by_test false all others = others

-- the elements up to the last that passes a test stand for the stack once those that fail are popped
popped_back : (t : GrowingTree) (p : Open → Bool) (q : ℕ → Bool) → ((o : Open) → StandsFor t.nodes o → not (p o) ≡ q o.id) →
    (all : List Open) → IsStackOf t all → IsStackOf (with_stack t (beyond q t.stack)) (up_to_last p all)
popped_back t p q same all s = record {
  ids = ap (beyond q) s.ids ∙ beyond_is t.nodes p q same (reverse all) s.nodes ∙ ap (λ (os : List Open). map (λ o. o.id) os) (sym (outwards p all));
  nodes = subst (AllStand t.nodes) (sym (outwards p all)) (still t.nodes p (reverse all) s.nodes);
}

-- ---- tables, foreign content, implied end tags

contexts_known : (context : TableContext) → are_known (context_names context) ≡ true
unfolding html_rows rare_rows
contexts_known TableContext.Table = refl
contexts_known TableContext.Section = refl
contexts_known TableContext.Row = refl

pub cleared : (context : TableContext) (t : GrowingTree) (all kept : List Open) → kept ≡ up_to_last (ends_context context) all → IsStackOf t all →
    IsStackOf (popped_up_to (context_names context) t) kept
cleared context t all kept e s =
    subst (IsStackOf (popped_up_to (context_names context) t)) (sym e)
    (popped_back t (ends_context context) (λ n. not (is_one_of t (context_names context) n))
    (λ o stands. ap not (one_agrees (context_names context) (contexts_known context) t o stands)) all s)

points_known : are_known text_points ≡ true
unfolding html_rows rare_rows
points_known = refl

in_html : (ns : ElementNamespace) → is_in_html ns ≡ is_html (space_of ns)
in_html ElementNamespace.Html = refl
in_html ElementNamespace.Svg = refl
in_html ElementNamespace.MathMl = refl

twice : (b : Bool) → not (not b) ≡ b
twice true = refl
twice false = refl

foreign_agrees : (t : GrowingTree) (o : Open) → StandsFor t.nodes o → has_foreign_content o ≡ is_foreign t o.id
foreign_agrees t o s =
    ap (λ b. not b && not (is_a_text_point o) && not (is_an_html_point o)) (in_html o.ns ∙ ap (λ kind. is_html (space_in kind)) (sym s.kind))
    ∙ ap (λ b. not (is_html (space_in (kind_of t o.id))) && not b && not (is_an_html_point o)) (one_agrees text_points points_known t o s)
    ∙ ap (λ b. not (is_html (space_in (kind_of t o.id))) && not (is_one_of t text_points o.id) && not b) s.point

pub left : (t : GrowingTree) (all kept : List Open) → kept ≡ up_to_last has_html_content all → IsStackOf t all →
    IsStackOf (with_stack t (beyond (is_foreign t) t.stack)) kept
left t all kept e s =
    subst (IsStackOf (with_stack t (beyond (is_foreign t) t.stack))) (sym e)
    (popped_back t has_html_content (is_foreign t) (λ o stands. twice (has_foreign_content o) ∙ foreign_agrees t o stands) all s)

implied_known : are_known implied ≡ true
unfolding html_rows rare_rows
implied_known = refl

excepted_agrees : (except : Option Name) → IfSome except (λ name. is_name name Name.Other ≡ false) → (t : GrowingTree) (o : Open) →
    StandsFor t.nodes o → is_excepted except o ≡ is_one_of t (text_list except) o.id
excepted_agrees None known t o s = refl
excepted_agrees (Some name) known t o s = ap (λ b. not b && has_name name o) (sym known) ∙ named_agrees name known t o s

pub implied_closed : (except : Option Name) (t : GrowingTree) (all kept : List Open) → kept ≡ up_to_last (λ o. not (is_implied_but except o)) all →
    IfSome except (λ name. is_name name Name.Other ≡ false) → IsStackOf t all → IsStackOf (implied_of implied (text_list except) t) kept
implied_closed except t all kept e known s =
    subst (IsStackOf (implied_of implied (text_list except) t)) (sym e)
    (popped_back t (λ o. not (is_implied_but except o)) (λ n. is_one_of t implied n && not (is_one_of t (text_list except) n)) (λ o stands.
    twice (is_implied_but except o) ∙ ap (λ b. b && not (is_excepted except o)) (one_agrees implied implied_known t o stands)
    ∙ ap (λ b. is_one_of t implied o.id && not b) (excepted_agrees except known t o stands)) all s)
