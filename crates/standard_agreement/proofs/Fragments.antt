-- Plain trees as a fragment, from the first token to the last.
use Rattle.std.specs.Prelude.{◌≡◌, refl, ℕ, Bool, true, false, List, [], ◌∷◌, ◌++◌, Option, None, Some, length, option_map}
use Rattle.std.proofs.Common.{arith}
use Rattle.std.proofs.lemmas.List.{append-nil}
use mathlib.Core.Path.{◌∙◌, sym, ap, subst}
use Rattle.standard_tokens.specs.States.{Data}
use Rattle.standard_tokens.specs.Tokens.{AnEof}
use Rattle.standard_rules.specs.PlainTrees.{FlowPlace, are_plain, flow_contexts, outermost}
use Rattle.standard_rules.specs.TreeTokens.{Trees, is_among, no_trees, tokens}
use Rattle.standard_rules.proofs.PagesBuilt.{FragmentBuilt, fragment_steps, html_only, in_context}
use Rattle.standard_rules.proofs.TreeLists.{of_each, switched_are_steps}
use Rattle.standard_trees.specs.Building.{Building as WholeBuilding, fragment_start}
use Rattle.standard_trees.specs.GrowingTree.{NoForm}
use Rattle.standard_trees.specs.Parsing.{first_state, nodes_of}
use Rattle.standard_trees.specs.RuleWords as N
use Rattle.standard_trees.specs.TreeStore.{ElementNode, Html, Kind, Node, NodeAttr, node_at, trees_of}
use Rattle.standard_agreement.specs.PlainPages.{PlainFragmentsAreBuilt, built_in, context_named, whole}
use Rattle.standard_agreement.proofs.Preorder.{after, roots, trees_are}
use Rattle.standard_agreement.proofs.Stack.{Fits}
use Rattle.standard_agreement.proofs.Listing.{FormIs}
use Rattle.standard_agreement.proofs.Following.{Meets, lagging, settled}
use Rattle.standard_agreement.proofs.Steps.{ArePlain, deep, steps_sound}
use Rattle.standard_agreement.proofs.Pages.{last_eof, plain_append, plain_tokens}

-- ---- before the first token

abbrev pub kind_named : List ℕ → List NodeAttr → Kind
kind_named name attrs = ElementNode Html name attrs None

abbrev pub begins : Bool → List ℕ → List NodeAttr → WholeBuilding
begins scripting name attrs = fragment_start scripting (context_named name attrs)

-- where the mode is reset to "in body", and no template and no form is around
record Begins (name : List ℕ) : Type 0 where
  mode : (scripting : Bool) (attrs : List NodeAttr) → (begins scripting name attrs).mode ≡ N.InBody
  templates : (scripting : Bool) (attrs : List NodeAttr) → (begins scripting name attrs).template_modes ≡ []
  form : (scripting : Bool) (attrs : List NodeAttr) → (begins scripting name attrs).tree.form ≡ NoForm
  state : (scripting : Bool) (attrs : List NodeAttr) → first_state scripting (context_named name attrs) ≡ Data

each_begins : (name : List ℕ) → is_among name flow_contexts ≡ true → Begins name
each_begins =
    of_each Begins flow_contexts (
      record { mode = λ s a. refl; templates = λ s a. refl; form = λ s a. refl; state = λ s a. refl },
      (
        record { mode = λ s a. refl; templates = λ s a. refl; form = λ s a. refl; state = λ s a. refl },
        (
          record { mode = λ s a. refl; templates = λ s a. refl; form = λ s a. refl; state = λ s a. refl },
          (
            record { mode = λ s a. refl; templates = λ s a. refl; form = λ s a. refl; state = λ s a. refl },
            (record { mode = λ s a. refl; templates = λ s a. refl; form = λ s a. refl; state = λ s a. refl }, tt),
          ),
        ),
      ),
    )

pub begins_in_data : (scripting : Bool) (name : List ℕ) (attrs : List NodeAttr) → is_among name flow_contexts ≡ true → first_state scripting (context_named name attrs) ≡ Data
begins_in_data scripting name attrs among = (each_begins name among).state scripting attrs

pub begun_in : (scripting : Bool) (name : List ℕ) (attrs : List NodeAttr) → is_among name flow_contexts ≡ true → Meets (Some (kind_named name attrs)) AnEof (in_context name) (begins scripting name attrs)
begun_in scripting name attrs among =
    let b : Begins name = each_begins name among in
    settled (record {
      stands = record {
        parts = record {
          fits = ((refl, tt, (refl, tt)), refl, (refl, tt), refl);
          stack = refl;
          listed = tt;
          pointer = subst (FormIs (begins scripting name attrs).tree.nodes 1 no_trees (html_only ∷ []) None) (sym (b.form scripting attrs)) tt;
          below = (omega arith, tt);
          fostering = refl;
          around = refl;
        };
        context = (attrs, refl, among);
        templates = b.templates scripting attrs;
        quirks = refl;
        skip = refl;
      };
      mode = b.mode scripting attrs;
      original = tt;
      later = refl;
      answer = refl;
    })

pub fragment_plain : (trees : Trees) → are_plain (outermost FlowPlace) trees ≡ true → ArePlain false (tokens trees ++ AnEof ∷ [])
fragment_plain trees h = plain_append false (tokens trees) (AnEof ∷ []) (plain_tokens false (outermost FlowPlace) trees h) (tt, tt)

-- ---- behind the last token

stack_end : (nodes : List Node) (t : Trees) → Fits nodes no_trees (record html_only { children = t } ∷ []) → trees_of (length nodes) nodes (node_at nodes 1).children ≡ whole t
stack_end nodes t f =
    let size : length nodes ≡ after 2 t = f.1 in
    ap (λ (node : Node). trees_of (length nodes) nodes node.children) f.0.0 ∙ ap (trees_of (length nodes) nodes) (append-nil (roots 2 t))
    ∙ trees_are (length nodes) nodes 2 t (omega arith) f.0.1

fragment_end : (around : Option Kind) (name : List ℕ) (t : Trees) (m : FragmentBuilt name t) (c : WholeBuilding) → Meets around AnEof m.after c → nodes_of c ≡ whole t
fragment_end around name t m c (lagging char l) = cc
fragment_end around name t m c (settled s) =
    stack_end c.tree.nodes t
    (subst (λ os. Fits c.tree.nodes no_trees os) m.stack (subst (λ d. Fits c.tree.nodes d m.after.stack) m.document s.stands.parts.fits))

pub no_page : (around : Option Kind) → false ≡ true → around ≡ None
no_page around e = cc

pub built_in_deep : (scripting : Bool) (name : List ℕ) (attrs : List NodeAttr) (trees : Trees) → is_among name flow_contexts ≡ true → are_plain (outermost FlowPlace) trees ≡ true →
    built_in deep scripting (context_named name attrs) trees ≡ Some (whole trees)
built_in_deep scripting name attrs trees among h =
    let around : Option Kind = Some (kind_named name attrs) in
    let m : FragmentBuilt name trees = fragment_steps name among trees h in
    let r = steps_sound false around (no_page around) (tokens trees ++ AnEof ∷ []) (fragment_plain trees h) AnEof (in_context name) m.after (begins scripting name attrs) (begun_in scripting name attrs among)
    (switched_are_steps (in_context name) m.after (tokens trees ++ AnEof ∷ []) m.steps) in
    let end : Meets around AnEof m.after r.0 = subst (λ t. Meets around t m.after r.0) (last_eof AnEof (tokens trees)) r.2 in
    ap (option_map nodes_of) r.1 ∙ ap Some (fragment_end around name trees m r.0 end)

pub fragment_built : PlainFragmentsAreBuilt
fragment_built scripting name attrs trees among h = (deep, built_in_deep scripting name attrs trees among h)
