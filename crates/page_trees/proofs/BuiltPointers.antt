-- What is done to the head and form element pointers is a step of the definition.
use Rattle.std.proofs.Common.{◌≡◌, ℕ, true, false, not, [], ◌∷◌, refl, sym, ap, ◌∙◌, codes}
use Rattle.std.specs.Prelude.{None, Option, Some}
use Rattle.std.specs.Option.{is_some, option_map_or}
use Rattle.standard_trees.specs.Building.{is_present, is_set}
use Rattle.standard_trees.specs.GrowingTree.{FormAt, GrowingTree, current, top}
use Rattle.standard_trees.specs.GrowingTree.{is_named as is_of_kind, is_one as is_one_of}
use Rattle.standard_trees.specs.TreeStore.{Kind, is_html, space_in}
use Rattle.page_trees.specs.Modes.{points_nowhere}
use Rattle.page_trees.specs.Sets.{is_in_html, space_of}
use Rattle.page_trees.specs.Stands.{Builds, IsContext, IsCurrent, IsHeadNamed, form_of, with_form, with_form_of_context, with_head}
use Rattle.page_trees.specs.TreeState.{TreeState}
use Rattle.page_trees.specs.declared.pointers.FormPointer.{FormPointer}
use Rattle.page_trees.specs.declared.stack.ElementNamespace.{ElementNamespace}
use Rattle.page_trees.specs.declared.stack.Open.{Open}

pub built_head : (s : TreeState) (t : GrowingTree) (n : ℕ) → Builds s t → current t ≡ n → IsHeadNamed t.nodes (Some (current t)) → Builds (record s { head = Some n }) (with_head t)
built_head s t n b e named = record {
  nodes = b.nodes;
  stack = record { ids = b.stack.ids; nodes = b.stack.nodes };
  numbered = b.numbered;
  listed = b.listed;
  head = ap Some e;
  head_named = named;
  form = b.form;
  form_named = b.form_named;
  context = b.context;
  late = b.late;
  lone = b.lone;
}

pub built_form : (s : TreeState) (t : GrowingTree) (n : ℕ) → Builds s t → current t ≡ n → is_one_of t (codes "form" ∷ []) (current t) ≡ true →
    Builds (record s { form = FormPointer.Element n }) (with_form t)
built_form s t n b e is = record {
  nodes = b.nodes;
  stack = record { ids = b.stack.ids; nodes = b.stack.nodes };
  numbered = b.numbered;
  listed = b.listed;
  head = b.head;
  head_named = b.head_named;
  form = ap FormAt e;
  form_named = is;
  context = b.context;
  late = b.late;
  lone = b.lone;
}

pub built_form_of_context : (s : TreeState) (t : GrowingTree) → Builds s t → Builds (record s { form = FormPointer.Context }) (with_form_of_context t)
built_form_of_context s t b = record {
  nodes = b.nodes;
  stack = record { ids = b.stack.ids; nodes = b.stack.nodes };
  numbered = b.numbered;
  listed = b.listed;
  head = b.head;
  head_named = b.head_named;
  form = refl;
  form_named = tt;
  context = b.context;
  late = b.late;
  lone = b.lone;
}

-- where nothing is open the current node is no form
pub no_form : (s : TreeState) (t : GrowingTree) → Builds s t → t.stack ≡ [] → is_one_of t (codes "form" ∷ []) (current t) ≡ false
no_form s t b e = ap (λ ns. is_one_of t (codes "form" ∷ []) (top ns)) e ∙ ap (is_of_kind (codes "form" ∷ [])) b.nodes.root

-- ---- whether the pointers are set

present_is : (o : Option ℕ) → is_some o ≡ is_present o
present_is None = refl
present_is (Some n) = refl

set_is : (form : FormPointer) → not (points_nowhere form) ≡ is_set (form_of form)
set_is FormPointer.None = refl
set_is FormPointer.Context = refl
set_is (FormPointer.Element n) = refl

context_is : (c : Option Open) (k : Option Kind) → IsContext c k → is_some c ≡ option_map_or (λ kind. true) k false
context_is None None is = refl
context_is (Some o) (Some kind) is = refl
context_is None (Some kind) is = absurd is
context_is (Some o) None is = absurd is

pub head_tells : (s : TreeState) (t : GrowingTree) → Builds s t → is_some s.head ≡ is_present t.head
head_tells s t b = present_is s.head ∙ ap is_present (sym b.head)

pub form_tells : (s : TreeState) (t : GrowingTree) → Builds s t → not (points_nowhere s.form) ≡ is_set t.form
form_tells s t b = set_is s.form ∙ ap is_set (sym b.form)

pub fragment_tells : (s : TreeState) (t : GrowingTree) → Builds s t → is_some s.context ≡ option_map_or (λ kind. true) t.context false
fragment_tells s t b = context_is s.context t.context b.context

-- ---- the adjusted current node is outside the HTML namespace

in_html : (ns : ElementNamespace) → is_in_html ns ≡ is_html (space_of ns)
in_html ElementNamespace.Html = refl
in_html ElementNamespace.Svg = refl
in_html ElementNamespace.MathMl = refl

pub foreign_tells : (r : Option Open) (kind : Kind) → IsCurrent r kind → option_map_or (λ o. not (is_in_html o.ns)) r false ≡ not (is_html (space_in kind))
foreign_tells None kind is = ap (λ k. not (is_html (space_in k))) (sym is)
foreign_tells (Some o) kind is = ap not (in_html o.ns) ∙ ap (λ k. not (is_html (space_in k))) (sym is.kind)
