-- Whether the rules for foreign content process characters, by the adjusted current node.
use Rattle.std.proofs.Common.{◌≡◌, ℕ, Bool, true, false, ◌&&◌, ◌||◌, not, List, [], ◌∷◌, Option, None, Some, refl, sym, ap, subst, ◌∙◌}
use Rattle.std.specs.Prelude.{cond, unwrap_or}
use Rattle.standard_trees.specs.Building.{is_empty}
use Rattle.standard_trees.specs.GrowingTree.{GrowingTree, adjusted_current, is_named, is_single, kind_of, top}
use Rattle.standard_trees.specs.NameLists.{text_points}
use Rattle.standard_trees.specs.TreeStore.{DocumentNode, Kind, is_html, node_at, space_in}
use Rattle.page_trees.specs.CharacterSteps.{goes_to_mode, takes_characters}
use Rattle.page_trees.specs.Names.{html_rows, rare_rows}
use Rattle.page_trees.specs.Sets.{has_foreign_content, is_a_text_point, is_an_html_point, is_in_html, space_of}
use Rattle.page_trees.specs.Stands.{Builds, IsCurrent, IsOfKind}
use Rattle.page_trees.specs.TreeState.{TreeState}
use Rattle.page_trees.specs.declared.stack.ElementNamespace.{ElementNamespace}
use Rattle.page_trees.specs.declared.stack.Open.{Open}
use Rattle.page_trees.proofs.StandingNames.{are_known, kind_agrees}

known_points : are_known text_points ≡ true
unfolding html_rows rare_rows
known_points = refl

same_space : (o : Open) (kind : Kind) → IsOfKind o kind → is_html (space_in kind) ≡ is_in_html o.ns
same_space o kind is = ap (λ k. is_html (space_in k)) is.kind ∙ by o.ns
  where
    by : (ns : ElementNamespace) → is_html (space_of ns) ≡ is_in_html ns
    by ElementNamespace.Html = refl
    by ElementNamespace.Svg = refl
    by ElementNamespace.MathMl = refl

no_document : (o : Open) → IsOfKind o DocumentNode → ⊥
no_document o is = (let e = is.kind in cc)

some_open : (t : GrowingTree) (o : Open) → (node_at t.nodes 0).kind ≡ DocumentNode → IsOfKind o (adjusted_current t) → is_empty t.stack ≡ false
some_open t o root is = by t.stack refl
  where
    by : (s : List ℕ) → t.stack ≡ s → is_empty s ≡ false
    by (n ∷ ns) e = refl
    by [] e = absurd (no_document o (subst (IsOfKind o)
        (ap (λ (s : List ℕ). cond (is_single s) (unwrap_or t.context (kind_of t (top s))) (kind_of t (top s))) e ∙ root) is))

turned : (h t p : Bool) → ((not h && not t) && not p) ≡ not (h || (t || p))
turned true t p = refl
turned false true p = refl
turned false false p = refl

pub some_run : (s : TreeState) (r : Option Open) (o : Open) (t : GrowingTree) → r ≡ Some o → Builds s t → IsCurrent r (adjusted_current t) → has_foreign_content o ≡ not (goes_to_mode t)
some_run s r o t e built current =
    let kind : Kind = adjusted_current t in
    let is = subst (λ (found : Option Open). IsCurrent found kind) e current in
    turned (is_in_html o.ns) (is_a_text_point o) (is_an_html_point o)
    ∙ ap (λ (x : Bool). not (x || (is_a_text_point o || is_an_html_point o))) (sym (same_space o kind is))
    ∙ ap (λ (x : Bool). not (is_html (space_in kind) || (x || is_an_html_point o))) (kind_agrees text_points known_points o kind is)
    ∙ ap (λ (x : Bool). not (is_html (space_in kind) || (is_named text_points kind || x))) is.point
    ∙ ap (λ (x : Bool). not (x || takes_characters kind)) (sym (some_open t o built.nodes.root is))

pub none_run : (s : TreeState) (r : Option Open) (t : GrowingTree) → r ≡ None → Builds s t → IsCurrent r (adjusted_current t) → false ≡ not (goes_to_mode t)
none_run s r t e built current =
    sym (ap (λ (kind : Kind). not (is_empty t.stack || takes_characters kind)) (subst (λ (found : Option Open). IsCurrent found (adjusted_current t)) e current)
    ∙ ap not (or_true (is_empty t.stack)))
  where
    or_true : (x : Bool) → (x || true) ≡ true
    or_true true = refl
    or_true false = refl
