-- The context element of a fragment, and how tree construction begins with it (13.4).
use Rattle.std.specs.Prelude.{◌≡◌, ◌∷◌, [], Bool, List, None, Some, codes, cond, false, ℕ}
use Rattle.std.specs.Option.{option_map_or}
use Rattle.std.specs.Str.{chars}
use Rattle.standard_tokens.specs.States.{Data, State}
use Rattle.standard_trees.specs.Building.{Building, NoQuirks, Surroundings, reset, with_tree}
use Rattle.standard_trees.specs.GrowingTree.{FormOfContext, GrowingTree, is_named, lower}
use Rattle.standard_trees.specs.Parsing.{state_among}
use Rattle.standard_trees.specs.RuleWords.{InTemplate}
use Rattle.standard_trees.specs.TreeRules.{first_states}
use Rattle.standard_trees.specs.TreeStore.{Kind, is_member, key_in}
use Rattle.page_trees.specs.Sets.{local_for, space_of}
use Rattle.page_trees.specs.declared.name.Name.{Name}
use Rattle.page_trees.specs.declared.reading.Context.{Context}
use Rattle.page_trees.specs.declared.stack.ElementNamespace.{ElementNamespace}
use Rattle.page_trees.specs.declared.stack.Open.{Open}

-- ---- the element that is given

abbrev pub namespace_in : Context → ElementNamespace
namespace_in (Context.Html name) = ElementNamespace.Html
namespace_in (Context.Svg name) = ElementNamespace.Svg
namespace_in (Context.MathMl name) = ElementNamespace.MathMl

-- its name as it is written, in UTF-8
abbrev pub written_in : Context → List ℕ
written_in (Context.Html name) = name.now
written_in (Context.Svg name) = name.now
written_in (Context.MathMl name) = name.now

-- The context element has that name in lower case, or as SVG spells it, and no attributes. Its document isn't in quirks mode, and no form
-- element is above it.
abbrev pub surroundings_of : Context → Surroundings
surroundings_of context = record {
  space = space_of (namespace_in context);
  name = local_for (namespace_in context) (lower (chars (written_in context)));
  attrs = [];
  in_form = false;
  quirks = NoQuirks;
}

-- the name has no space, as the name of no element has
abbrev pub IsUnspaced : Context → Type 0
IsUnspaced context = is_member 32 (chars (written_in context)) ≡ false

-- ---- how tree construction begins with it

-- the state of the tokenizer in which a text begins there
abbrev pub state_in_context : Building → State
state_in_context b = option_map_or (λ kind. state_among (first_states b.scripting) (key_in kind)) b.tree.context Data

-- an element without attributes, as the code keeps the context element
abbrev pub context_for : ElementNamespace → Name → Open
context_for ns name = record { id = 0; ns = ns; name = name; number = 0; holds_html = false }

abbrev pub with_context : Kind → GrowingTree → GrowingTree
with_context kind t = record t { context = Some kind }

-- the context element is one of these
abbrev pub is_in_context : List (List ℕ) → GrowingTree → Bool
is_in_context names t = option_map_or (is_named names) t.context false

-- "set the parser's form element pointer to the nearest node to the context element that is a form element", if it is itself one
abbrev pub with_own_form : GrowingTree → GrowingTree
with_own_form t = record t { form = cond (is_in_context (codes "form" ∷ []) t) FormOfContext t.form }

-- "if the context element is a template element, then push in template onto the stack of template insertion modes"
abbrev pub with_own_mode : Building → Building
with_own_mode b = record b {
  template_modes = cond (is_in_context (codes "template" ∷ []) b.tree) (InTemplate ∷ b.template_modes) b.template_modes;
}

-- all of this, and "reset the parser's insertion mode appropriately"
abbrev pub begun_in : Kind → Building → Building
begun_in kind b = reset (with_own_mode (with_tree b (with_own_form (with_context kind b.tree))))
