-- How the code begins with the context element of a fragment is how the definition begins.
use Rattle.std.proofs.Common.{◌≡◌, ◌∙◌, ◌&&◌, ◌||◌, ◌∷◌, [], Bool, List, ap, arith, codes, cond, false, map, nat_eq, not, refl, subst, sym, true, ℕ}
use Rattle.std.specs.Prelude.{None, Option, Some, encode_utf8_all}
use Rattle.std.specs.Char.{to_ascii_lowercase}
use Rattle.std.specs.List.{list_all}
use Rattle.std.specs.Option.{option_map_or}
use Rattle.std.specs.Str.{IsUtf8, bytes_eq, chars}
use Rattle.std.proofs.lemmas.Str.{encodes-chars}
use Rattle.std.proofs.lemmas.Bool.Decides.{nat_tests}
use Rattle.standard_tokens.specs.States.{Data, State as StandardState}
use Rattle.standard_trees.specs.Building.{Building, context_of, empty_tree, fragment_start, reset, start as page_start, with_tree}
use Rattle.standard_trees.specs.GrowingTree.{FormOfContext, GrowingTree, NoForm, inserted_at, is_among, is_named as is_of_kind, is_template, lower}
use Rattle.standard_trees.specs.NameLists.{html_points}
use Rattle.standard_trees.specs.Parsing.{state_among}
use Rattle.standard_trees.specs.RuleWords.{InTemplate}
use Rattle.standard_trees.specs.TreeRules.{first_states}
use Rattle.standard_trees.specs.TreeStore.{EndOf, Html, Kind, is_html, is_member, key_in}
use Rattle.page_trees.specs.Contexts.{begun_in, context_for, namespace_in, state_in_context, surroundings_of, with_context, written_in}
use Rattle.page_trees.specs.Names.{html_rows, name_of, rare_rows, text_of}
use Rattle.page_trees.specs.Sets.{is_in_mathml, is_one_in, key_for}
use Rattle.page_trees.specs.Constructs.{Constructs}
use Rattle.page_trees.specs.Stands.{Builds, IsContext, IsOfKind, IsTagName}
use Rattle.page_trees.specs.TreeState.{TreeState}
use Rattle.page_trees.specs.declared.builder.TreeBuilder.{TreeBuilder}
use Rattle.page_trees.specs.declared.name.Name.{Name}
use Rattle.page_trees.specs.declared.reading.Context.{Context}
use Rattle.page_trees.specs.declared.stack.ElementNamespace.{ElementNamespace}
use Rattle.page_trees.specs.declared.stack.Open.{Open}
use Rattle.page_trees.proofs.LoweredTexts.{all_lowered, lowered_once}
use Rattle.page_trees.proofs.NamesSpelled.{name_spelled}
use Rattle.page_trees.proofs.StandingNames.{are_known, key_agrees}

-- ---- the context element is set

-- which node represents it doesn't matter
pub of_any_id : (ns : ElementNamespace) (name : Name) (id : ℕ) (kind : Kind) → IsOfKind (context_for ns name) kind →
    IsOfKind (record (context_for ns name) { id = id }) kind
of_any_id ns name id kind is = record {
  written = is.written;
  attrs = is.attrs;
  contents = is.contents;
  tag = is.tag;
  name = is.name;
  kind = is.kind;
  point = is.point;
  plain = is.plain;
}

pub built_context : (s : TreeState) (t : GrowingTree) (o : Open) (kind : Kind) → IsOfKind o kind → Builds s t →
    Builds (record s { context = Some o }) (with_context kind t)
built_context s t o kind is b = record {
  nodes = b.nodes;
  stack = record { ids = b.stack.ids; nodes = b.stack.nodes };
  numbered = b.numbered;
  listed = b.listed;
  head = b.head;
  head_named = b.head_named;
  form = b.form;
  form_named = b.form_named;
  context = is;
  late = b.late;
  lone = b.lone;
}

-- ---- its name

no_space : (c : ℕ) → nat_eq 32 (to_ascii_lowercase c) ≡ nat_eq 32 c
no_space c = grind (arith, nat_tests)

still_unspaced : (text : List ℕ) → is_member 32 (lower text) ≡ is_member 32 text
still_unspaced [] = refl
still_unspaced (c ∷ text) =
    ap (λ b. b || is_member 32 (lower text)) (no_space c) ∙ ap (λ b. nat_eq 32 c || b) (still_unspaced text)

tag_named : (text : List ℕ) → is_member 32 text ≡ false → IsTagName (lower text)
tag_named text unspaced = record { lower_case = lowered_once text; unspaced = still_unspaced text ∙ unspaced }

html_points_known : are_known html_points ≡ true
unfolding html_rows rare_rows
html_points_known = refl

and_false : (b : Bool) → (b && false) ≡ false
and_false true = refl
and_false false = refl

-- the element that is given is the context element of the surroundings
pub context_is : (context : Context) (name : Name) (folded : List ℕ) → IsUtf8 (written_in context) →
    is_member 32 (chars (written_in context)) ≡ false → folded ≡ map to_ascii_lowercase (written_in context) → name ≡ name_of folded →
    IsOfKind (context_for (namespace_in context) name) (context_of (surroundings_of context))
context_is context name folded utf8 unspaced fold named = record {
  written = written;
  attrs = [];
  contents = None;
  tag = tag;
  name = known;
  kind = refl;
  point = ap (λ b. b || (is_in_mathml (namespace_in context) && false)) (ap (is_one_in html_points (namespace_in context)) known ∙
      key_agrees html_points html_points_known (namespace_in context) written tag)
      ∙ ap (λ b. is_among (key_for (namespace_in context) written) html_points || b)
      (and_false (is_in_mathml (namespace_in context)) ∙ sym (and_false (is_of_kind (codes "math annotation-xml" ∷ []) (context_of (surroundings_of context)))));
  plain = λ e. refl;
}
  where
    written : List ℕ
    written = lower (chars (written_in context))

    tag : IsTagName written
    tag = tag_named (chars (written_in context)) unspaced

    known : name ≡ name_of written
    known = named ∙ ap name_of (fold ∙ ap (map to_ascii_lowercase) (sym (encodes-chars (written_in context) utf8)) ∙ all_lowered (chars (written_in context)))
        ∙ name_spelled written

-- ---- what is begun with it

one_or : (b : Bool) → (b || false) ≡ b
one_or true = refl
one_or false = refl

form_name : (context : Context) → is_of_kind (codes "form" ∷ []) (context_of (surroundings_of context)) ≡
    (is_html (surroundings_of context).space && bytes_eq (surroundings_of context).name (codes "form"))
form_name (Context.Html name) = one_or (bytes_eq (lower (chars name.now)) (codes "form"))
form_name (Context.Svg name) = refl
form_name (Context.MathMl name) = refl

template_name : (context : Context) → is_of_kind (codes "template" ∷ []) (context_of (surroundings_of context)) ≡
    is_template (surroundings_of context).space (surroundings_of context).name
template_name (Context.Html name) = one_or (bytes_eq (lower (chars name.now)) (codes "template"))
template_name (Context.Svg name) = refl
template_name (Context.MathMl name) = refl

-- `html` is open, and the rest is set
abbrev pub with_root : Bool → Building
with_root scripting = with_tree (page_start scripting) (inserted_at (EndOf 0) Html (codes "html") [] empty_tree)

abbrev begun : Bool → Kind → Bool → Bool → Building
begun scripting kind form template =
    let tree : GrowingTree = inserted_at (EndOf 0) Html (codes "html") [] empty_tree in
    reset (record (page_start scripting) {
      tree = record tree { form = cond form FormOfContext NoForm; context = Some kind };
      template_modes = cond template (InTemplate ∷ []) [];
    })

pub begun_is : (scripting : Bool) (context : Context) →
    begun_in (context_of (surroundings_of context)) (with_root scripting) ≡ fragment_start scripting (surroundings_of context)
begun_is scripting context =
    ap (λ b. begun scripting (context_of (surroundings_of context)) b (is_of_kind (codes "template" ∷ []) (context_of (surroundings_of context)))) (form_name context)
    ∙ ap (λ b. begun scripting (context_of (surroundings_of context)) (is_html (surroundings_of context).space && bytes_eq (surroundings_of context).name (codes "form")) b)
    (template_name context)

-- ---- the tokenizer's state

abbrev knows_state : List (List ℕ) × StandardState → Bool
knows_state entry = are_known entry.0

same_state : (entries : List (List (List ℕ) × StandardState)) → list_all knows_state entries ≡ true → (ns : ElementNamespace) (written : List ℕ) →
    IsTagName written → state_among entries (key_for ns (text_of (name_of written))) ≡ state_among entries (key_for ns written)
same_state [] known ns written tag = refl
same_state (entry ∷ more) known ns written tag =
    ap (λ b. elim b [ true ↦ entry.1 | false ↦ state_among more (key_for ns (text_of (name_of written))) ]) (key_agrees entry.0 parts.0 ns written tag)
    ∙ ap (λ s. elim (is_among (key_for ns written) entry.0) [ true ↦ entry.1 | false ↦ s ]) (same_state more parts.1 ns written tag)
  where
    parts : (are_known entry.0 ≡ true) × (list_all knows_state more ≡ true)
    parts = by (are_known entry.0) (list_all knows_state more) known
      where
        by : (x y : Bool) → x && y ≡ true → (x ≡ true) × (y ≡ true)
        by true y h = (refl, h)
        by false y h = cc

states_known : (scripting : Bool) → list_all knows_state (first_states scripting) ≡ true
unfolding html_rows rare_rows
states_known scripting = refl

-- for the context element of that name
pub state_for_kind : (scripting : Bool) (o : Open) (kind : Kind) → IsOfKind o kind →
    state_among (first_states scripting) (key_for o.ns (text_of o.name)) ≡ state_among (first_states scripting) (key_in kind)
state_for_kind scripting o kind is =
    ap (λ n. state_among (first_states scripting) (key_for o.ns (text_of n))) is.name
    ∙ same_state (first_states scripting) (states_known scripting) o.ns is.written is.tag
    ∙ ap (λ k. state_among (first_states scripting) (key_in k)) (sym is.kind)

-- elements outside HTML have none of these names
pub foreign_state : (scripting : Bool) (ns : ElementNamespace) (name : List ℕ) → (ns ≡ ElementNamespace.Html → ⊥) →
    state_among (first_states scripting) (key_for ns name) ≡ Data
foreign_state scripting ElementNamespace.Html name off = absurd (off refl)
foreign_state scripting ElementNamespace.Svg name off = refl
foreign_state scripting ElementNamespace.MathMl name off = refl

no_kind : (o : Option Open) (k : Option Kind) → IsContext o k → o ≡ None → k ≡ None
no_kind None None is e = refl
no_kind None (Some kind) is e = absurd is
no_kind (Some o) None is e = absurd is
no_kind (Some o) (Some kind) is e = cc

some_context : (o : Option Open) (k : Option Kind) → IsContext o k → (one : Open) → o ≡ Some one → (kind : Kind) × (k ≡ Some kind) × IsOfKind one kind
some_context None None is one e = cc
some_context None (Some kind) is one e = absurd is
some_context (Some o) None is one e = absurd is
some_context (Some o) (Some kind) is one e = (kind, refl, subst (λ p. IsOfKind p kind) (by e) is)
  where
    by : Some o ≡ Some one → o ≡ one
    by f = cc

pub state_told : (s : TreeBuilder) (b : Building) (o : Open) (one : StandardState) → Constructs s b → s.tree.context ≡ Some o →
    one ≡ state_among (first_states s.scripting) (key_for o.ns (text_of o.name)) → one ≡ state_in_context b
state_told s b o one stands is told =
    let some : (kind : Kind) × (b.tree.context ≡ Some kind) × IsOfKind o kind = some_context s.tree.context b.tree.context stands.tree.context o is in
    told ∙ ap (λ x. state_among (first_states x) (key_for o.ns (text_of o.name))) (sym stands.scripting) ∙ state_for_kind b.scripting o some.0 some.2
    ∙ sym (ap (λ (k : Option Kind). option_map_or (λ kind. state_among (first_states b.scripting) (key_in kind)) k Data) some.1)

pub none_told : (s : TreeBuilder) (b : Building) → Constructs s b → s.tree.context ≡ None → Data ≡ state_in_context b
none_told s b stands none =
    sym (ap (λ (k : Option Kind). option_map_or (λ kind. state_among (first_states b.scripting) (key_in kind)) k Data)
    (no_kind s.tree.context b.tree.context stands.tree.context none))
