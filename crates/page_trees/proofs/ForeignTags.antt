-- Which rules the dispatcher takes for a tag, by the adjusted current node.
use Rattle.std.proofs.Common.{◌≡◌, ℕ, Bool, true, false, ◌&&◌, ◌||◌, not, List, [], ◌∷◌, codes, Option, None, Some, refl, sym, ap, subst, ◌∙◌, true≢false}
use Rattle.std.specs.Prelude.{cond, unwrap_or}
use Rattle.standard_trees.specs.Building.{Building, is_empty}
use Rattle.standard_trees.specs.GrowingTree.{GrowingTree, adjusted_current, is_among, is_html_point, is_named, is_single, kind_of, top}
use Rattle.standard_trees.specs.NameLists.{text_points}
use Rattle.standard_trees.specs.RuleWords.{Act, Dispatcher, ForeignContent, Use, UseCurrentMode, goes}
use Rattle.standard_trees.specs.TreeRules.{rules}
use Rattle.standard_trees.specs.TreeStore.{DocumentNode, Kind, is_html, node_at, space_in}
use Rattle.page_tokens.specs.declared.token.TagKind.{TagKind}
use Rattle.page_trees.specs.Foreign.{is_foreign_to, is_glyph_name, names_annotation, names_svg}
use Rattle.page_trees.specs.Modes.{is_start_kind}
use Rattle.page_trees.specs.Names.{html_rows, rare_rows, text_of}
use Rattle.page_trees.specs.Sets.{is_a_text_point, is_an_html_point, is_in_html, is_in_mathml, is_one_in, space_of}
use Rattle.page_trees.specs.Stands.{Builds, IsCurrent, IsOfKind}
use Rattle.page_trees.specs.TagSteps.{DispatchesTag, way_for}
use Rattle.page_trees.specs.TreeState.{TreeState}
use Rattle.page_trees.specs.declared.name.Name.{Name}
use Rattle.page_trees.specs.declared.stack.ElementNamespace.{ElementNamespace}
use Rattle.page_trees.specs.declared.stack.Open.{Open}
use Rattle.page_trees.proofs.RulesTaken.{are_of_names, chosen, plain_tag, taken_tag}
use Rattle.page_trees.proofs.StandingNames.{are_known, kind_agrees}

-- ---- names

glyph_is : (name : Name) → is_among (text_of name) (codes "mglyph" ∷ codes "malignmark" ∷ []) ≡ is_glyph_name name
glyph_is Name.Mglyph = refl
glyph_is Name.Malignmark = refl
glyph_is _ = refl

svg_is : (name : Name) → is_among (text_of name) (codes "svg" ∷ []) ≡ names_svg name
svg_is Name.Svg = refl
svg_is _ = refl

abbrev pub annotation : List (List ℕ)
annotation = codes "math annotation-xml" ∷ []

pub annotation_is : (ns : ElementNamespace) (name : Name) → is_one_in annotation ns name ≡ (is_in_mathml ns && names_annotation name)
annotation_is ElementNamespace.MathMl Name.AnnotationXml = refl
annotation_is ElementNamespace.MathMl _ = refl
annotation_is ElementNamespace.Html Name.A = refl
annotation_is ElementNamespace.Html _ = refl
annotation_is ElementNamespace.Svg Name.A = refl
annotation_is ElementNamespace.Svg _ = refl

text_points_known : are_known text_points ≡ true
unfolding html_rows rare_rows
text_points_known = refl

pub annotation_known : are_known annotation ≡ true
unfolding html_rows rare_rows
annotation_known = refl

dispatcher_known : are_of_names (rules Dispatcher) ≡ true
unfolding rules html_rows rare_rows
dispatcher_known = refl

-- ---- the tests of the rules, by what the adjusted current node is

in_space : (o : Open) (kind : Kind) → IsOfKind o kind → is_html (space_in kind) ≡ is_in_html o.ns
in_space o kind is = ap (λ k. is_html (space_in k)) is.kind ∙ by o.ns
  where
    by : (ns : ElementNamespace) → is_html (space_of ns) ≡ is_in_html ns
    by ElementNamespace.Html = refl
    by ElementNamespace.Svg = refl
    by ElementNamespace.MathMl = refl

no_document : (o : Open) → IsOfKind o DocumentNode → ⊥
no_document o is = (let e = is.kind in cc)

some_open : (t : GrowingTree) (o : Open) → (node_at t.nodes 0).kind ≡ DocumentNode → IsOfKind o (adjusted_current t) → is_empty t.stack ≡ false
some_open t o root is = by t.stack refl
  where
    by : (s : List ℕ) → t.stack ≡ s → is_empty s ≡ false
    by (n ∷ ns) e = refl
    by [] e = absurd (no_document o (subst (IsOfKind o)
        (ap (λ (s : List ℕ). cond (is_single s) (unwrap_or t.context (kind_of t (top s))) (kind_of t (top s))) e ∙ root) is))

-- ---- the rule that is taken

abbrev start_acts : Bool → Bool → Bool → Bool → Bool → Bool → Bool → List Act → List Act → List Act
start_acts e h g t s a p u f = elim (e && true) [
  | true ↦ u
  | false ↦ elim (h && true) [
    | true ↦ u
    | false ↦ elim (not g || false) [
      | true ↦ elim (t && true) [ true ↦ u | false ↦ elim (s || false) [ true ↦ elim (a && true) [ true ↦ u | false ↦ elim (p && true) [ true ↦ u | false ↦ f ] ] | false ↦ elim (p && true) [ true ↦ u | false ↦ f ] ] ]
      | false ↦ elim (s || false) [ true ↦ elim (a && true) [ true ↦ u | false ↦ elim (p && true) [ true ↦ u | false ↦ f ] ] | false ↦ elim (p && true) [ true ↦ u | false ↦ f ] ]
    ]
  ]
]

abbrev by_test : Bool → List Act → List Act → List Act
by_test true f u = f
by_test false f u = u

pick_start : (e h g t s a p : Bool) (u f : List Act) → e ≡ false → start_acts e h g t s a p u f ≡ by_test (not h && not ((t && not g) || (a && s) || p)) f u
pick_start true h g t s a p u f none = absurd (true≢false none)
pick_start false true g t s a p u f none = refl
pick_start false false false true s a p u f none = refl
pick_start false false false false true true p u f none = refl
pick_start false false false false true false true u f none = refl
pick_start false false false false true false false u f none = refl
pick_start false false false false false true true u f none = refl
pick_start false false false false false true false u f none = refl
pick_start false false false false false false true u f none = refl
pick_start false false false false false false false u f none = refl
pick_start false false true true true true p u f none = refl
pick_start false false true true true false true u f none = refl
pick_start false false true true true false false u f none = refl
pick_start false false true true false true true u f none = refl
pick_start false false true true false true false u f none = refl
pick_start false false true true false false true u f none = refl
pick_start false false true true false false false u f none = refl
pick_start false false true false true true p u f none = refl
pick_start false false true false true false true u f none = refl
pick_start false false true false true false false u f none = refl
pick_start false false true false false true true u f none = refl
pick_start false false true false false true false u f none = refl
pick_start false false true false false false true u f none = refl
pick_start false false true false false false false u f none = refl

abbrev end_acts : Bool → Bool → List Act → List Act → List Act
end_acts e h u f = elim (e && true) [ true ↦ u | false ↦ elim (h && true) [ true ↦ u | false ↦ f ] ]

pick_end : (e h : Bool) (u f : List Act) → e ≡ false → end_acts e h u f ≡ by_test (not h) f u
pick_end true h u f none = absurd (true≢false none)
pick_end false true u f none = refl
pick_end false false u f none = refl

html_picked : (e h : Bool) (u f : List Act) → h ≡ true → end_acts e h u f ≡ u
html_picked true h u f is_html = refl
html_picked false true u f is_html = refl
html_picked false false u f is_html = absurd (true≢false (sym is_html))

way_is : (foreign : Bool) → by_test foreign (goes (Use ForeignContent) ∷ []) (goes UseCurrentMode ∷ []) ≡ goes (way_for foreign) ∷ []
way_is true = refl
way_is false = refl

regrouped : (m n s : Bool) → ((m && n) && s) ≡ (m && (n && s))
regrouped true n s = refl
regrouped false n s = refl

same_test : (h g t s a p h1 g1 t1 s1 m n p1 : Bool) → h ≡ h1 → g ≡ g1 → t ≡ t1 → s ≡ s1 → a ≡ (m && n) → p ≡ p1 →
    (not h && not ((t && not g) || (a && s) || p)) ≡ (not h1 && not ((t1 && not g1) || (m && (n && s1)) || p1))
same_test h g t s a p h1 g1 t1 s1 m n p1 one two three four five six = (let seven = regrouped m n s1 in cc)

-- ---- an element is the adjusted current node

start_way : (b : Building) (o : Open) (name : Name) → (node_at b.tree.nodes 0).kind ≡ DocumentNode → IsOfKind o (adjusted_current b.tree) →
    chosen (plain_tag true name) b (rules Dispatcher) ≡ goes (way_for (is_foreign_to o TagKind.Start name)) ∷ []
unfolding rules
start_way b o name root is =
    let kind = adjusted_current b.tree in
    pick_start (is_empty b.tree.stack) (is_html (space_in kind)) (is_among (text_of name) (codes "mglyph" ∷ codes "malignmark" ∷ [])) (is_named text_points kind)
    (is_among (text_of name) (codes "svg" ∷ [])) (is_named annotation kind) (is_html_point kind) (goes UseCurrentMode ∷ []) (goes (Use ForeignContent) ∷ []) (some_open b.tree o root is)
    ∙ ap (λ (x : Bool). by_test x (goes (Use ForeignContent) ∷ []) (goes UseCurrentMode ∷ []))
    (same_test _ _ _ _ _ _ (is_in_html o.ns) (is_glyph_name name) (is_a_text_point o) (names_svg name) (is_in_mathml o.ns) (names_annotation o.name) (is_an_html_point o)
    (in_space o kind is) (glyph_is name) (sym (kind_agrees text_points text_points_known o kind is)) (svg_is name)
    (sym (kind_agrees annotation annotation_known o kind is) ∙ annotation_is o.ns o.name) (sym is.point))
    ∙ way_is (is_foreign_to o TagKind.Start name)

end_way : (b : Building) (o : Open) (name : Name) → (node_at b.tree.nodes 0).kind ≡ DocumentNode → IsOfKind o (adjusted_current b.tree) →
    chosen (plain_tag false name) b (rules Dispatcher) ≡ goes (way_for (is_foreign_to o TagKind.End name)) ∷ []
unfolding rules
end_way b o name root is =
    let kind = adjusted_current b.tree in
    pick_end (is_empty b.tree.stack) (is_html (space_in kind)) (goes UseCurrentMode ∷ []) (goes (Use ForeignContent) ∷ []) (some_open b.tree o root is)
    ∙ ap (λ (x : Bool). by_test (not x) (goes (Use ForeignContent) ∷ []) (goes UseCurrentMode ∷ [])) (in_space o kind is)
    ∙ way_is (is_foreign_to o TagKind.End name)

pub some_dispatched : (s : TreeState) (r : Option Open) (o : Open) (kind : TagKind) (name : Name) (foreign : Bool) → r ≡ Some o →
    ((t : GrowingTree) → Builds s t → IsCurrent r (adjusted_current t)) → foreign ≡ is_foreign_to o kind name → DispatchesTag kind name s foreign
some_dispatched s r o TagKind.Start name foreign e current said tag starts b c built =
    let is = subst (λ (found : Option Open). IsCurrent found (adjusted_current b.tree)) e (current b.tree built) in
    taken_tag name tag b c true (ap is_start_kind starts) (rules Dispatcher) dispatcher_known ∙ start_way b o name built.nodes.root is
    ∙ ap (λ (x : Bool). goes (way_for x) ∷ []) (sym said)
some_dispatched s r o TagKind.End name foreign e current said tag ends b c built =
    let is = subst (λ (found : Option Open). IsCurrent found (adjusted_current b.tree)) e (current b.tree built) in
    taken_tag name tag b c false (ap is_start_kind ends) (rules Dispatcher) dispatcher_known ∙ end_way b o name built.nodes.root is
    ∙ ap (λ (x : Bool). goes (way_for x) ∷ []) (sym said)

-- ---- nothing is open

none_way : (b : Building) (start : Bool) (name : Name) → adjusted_current b.tree ≡ DocumentNode → chosen (plain_tag start name) b (rules Dispatcher) ≡ goes UseCurrentMode ∷ []
unfolding rules
none_way b true name e = html_picked (is_empty b.tree.stack) (is_html (space_in (adjusted_current b.tree))) (goes UseCurrentMode ∷ []) _ (ap (λ kind. is_html (space_in kind)) e)
none_way b false name e = html_picked (is_empty b.tree.stack) (is_html (space_in (adjusted_current b.tree))) (goes UseCurrentMode ∷ []) _ (ap (λ kind. is_html (space_in kind)) e)

pub none_dispatched : (s : TreeState) (r : Option Open) (kind : TagKind) (name : Name) → r ≡ None → ((t : GrowingTree) → Builds s t → IsCurrent r (adjusted_current t)) →
    DispatchesTag kind name s false
none_dispatched s r kind name e current tag of_kind b c built =
    taken_tag name tag b c (is_start_kind tag.kind) refl (rules Dispatcher) dispatcher_known
    ∙ none_way b (is_start_kind tag.kind) name (subst (λ (found : Option Open). IsCurrent found (adjusted_current b.tree)) e (current b.tree built))
