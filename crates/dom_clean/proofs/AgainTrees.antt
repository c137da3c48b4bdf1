-- What is left of trees can stay as it is, element by element.
use Rattle.std.proofs.Common.{◌≡◌, ℕ, true, false, ◌&&◌, ◌||◌, ◌-◌, List, [], ◌∷◌, Some, None, slice_get}
use Rattle.std.specs.Prelude.{Option, is_some, nat_lt}
use Rattle.std.specs.Option.{option_map_or}
use Rattle.std.proofs.lemmas.Bool.{and_parts, cond_both, or_parts}
use Rattle.dom_nodes.specs.Elements.{Element}
use Rattle.dom_nodes.specs.Words.{is_among}
use Rattle.dom_nodes.specs.declared.node_data.NodeData.{NodeData}
use Rattle.dom_nodes.specs.declared.node_data.NodeData.TheVariants.{Document, Fragment, Doctype, Text, Comment, ProcessingInstruction, Element as AnElement}
use Rattle.dom_links.specs.Forest.{Forest}
use Rattle.dom_links.specs.Trees.{Trees, NoTrees, Tree}
use Rattle.dom_markup.specs.Html.{is_html}
use Rattle.dom_markup.specs.Names.{void_names}
use Rattle.dom_markup.specs.ValueTrees.{ValueTrees}
use Rattle.dom_markup.specs.ValueTrees.ValueTrees.{no_trees, text_node, comment_node, doctype_node, element_node}
use Rattle.page_trees.specs.ElementKinds.{kind_of}
use Rattle.page_trees.specs.declared.element_kinds.ElementCategory.{ElementCategory}
use Rattle.page_trees.specs.declared.element_kinds.ElementCategory.TheVariants.{Pre}
use Rattle.calm_pages.specs.Calm.{admits, behind_text, may_hold_text}
use Rattle.dom_sanitize.specs.Written.{followed_by, joined, with_text}
use Rattle.dom_clean.specs.Cleaned.{after_lines, cleaned, held_by, left_of, text_or, without_lines}
use Rattle.dom_clean.specs.Fates.{fate_of, is_dropped, is_unseen, may_stay, place_below, spellable}
use Rattle.dom_clean.specs.Policy.{Policy}
use Rattle.dom_clean.specs.declared.fates.Fate.{Fate}
use Rattle.dom_clean.specs.declared.fates.Fate.TheVariants.{Stays, Unwrapped, Vanishes}
use Rattle.dom_clean.specs.declared.fates.Place.{Place}
use Rattle.dom_clean.proofs.AgainAttrs.{AreStaying, attrs-staying}

-- an element that the policy keeps where it may stand
pub record IsKept (policy : Policy) (name : List ℕ) : Type 0 where
  pub seen : is_unseen (kind_of name) ≡ false
  pub undropped : is_among name policy.dropped ≡ false
  pub named : is_among name policy.elements ≡ true

-- elements that the policy keeps, with their attributes, at most so many in one another
abbrev pub AreSettledTrees : Policy → ℕ → ValueTrees → Type 0
AreSettledTrees policy left no_trees = Unit {0}
AreSettledTrees policy left (text_node contents later) = AreSettledTrees policy left later
AreSettledTrees policy left (comment_node contents later) = ⊥
AreSettledTrees policy left (doctype_node name public system later) = ⊥
AreSettledTrees policy left (element_node name attributes children later) =
    IsKept policy name × (nat_lt 0 left ≡ true) × AreStaying policy name attributes × AreSettledTrees policy (left - 1) children × AreSettledTrees policy left later

-- ---- texts side by side as one

settled_with_text : (policy : Policy) (left : ℕ) (text : List ℕ) (later : ValueTrees) → AreSettledTrees policy left later → AreSettledTrees policy left (with_text text later)
settled_with_text policy left text no_trees p = tt
settled_with_text policy left text (text_node more later) p = p
settled_with_text policy left text (comment_node c later) p = absurd p
settled_with_text policy left text (doctype_node n u s later) p = absurd p
settled_with_text policy left text (element_node n a children later) p = p

pub settled_joined : (policy : Policy) (left : ℕ) (ts : ValueTrees) → AreSettledTrees policy left ts → AreSettledTrees policy left (joined ts)
settled_joined policy left no_trees p = tt
settled_joined policy left (text_node c later) p = settled_with_text policy left c (joined later) (settled_joined policy left later p)
settled_joined policy left (comment_node c later) p = absurd p
settled_joined policy left (doctype_node n u s later) p = absurd p
settled_joined policy left (element_node n a children later) p = (p.0, p.1, p.2, settled_joined policy (left - 1) children p.3, settled_joined policy left later p.4)

-- ---- what is left

settled_followed : (policy : Policy) (left : ℕ) (a b : ValueTrees) → AreSettledTrees policy left a → AreSettledTrees policy left b → AreSettledTrees policy left (followed_by a b)
settled_followed policy left no_trees b p q = q
settled_followed policy left (text_node c later) b p q = settled_followed policy left later b p q
settled_followed policy left (comment_node c later) b p q = absurd p
settled_followed policy left (doctype_node n u s later) b p q = absurd p
settled_followed policy left (element_node n a children later) b p q = (p.0, p.1, p.2, p.3, settled_followed policy left later b p.4 q)

settled_text : (policy : Policy) (left : ℕ) (text : List ℕ) → AreSettledTrees policy left (behind_text text no_trees)
settled_text policy left [] = tt
settled_text policy left (b ∷ text) = tt

settled_or : (policy : Policy) (left : ℕ) (text : List ℕ) (later others : ValueTrees) → AreSettledTrees policy left later → AreSettledTrees policy left others → AreSettledTrees policy left (text_or text later others)
settled_or policy left [] later others p q = q
settled_or policy left (b ∷ text) later others p q = p

settled_lines : (policy : Policy) (left : ℕ) (ts : ValueTrees) → AreSettledTrees policy left ts → AreSettledTrees policy left (without_lines ts)
settled_lines policy left no_trees p = tt
settled_lines policy left (text_node c later) p = settled_or policy left (after_lines c) later (without_lines later) p (settled_lines policy left later p)
settled_lines policy left (comment_node c later) p = absurd p
settled_lines policy left (doctype_node n u s later) p = absurd p
settled_lines policy left (element_node n a children later) p = p

settled_held : (policy : Policy) (left : ℕ) (kind : ElementCategory) (ts : ValueTrees) → AreSettledTrees policy left ts → AreSettledTrees policy left (held_by kind ts)
settled_held policy left Pre ts p = settled_lines policy left ts p
settled_held policy left _ ts p = p

-- what is left of a node, by what is left of its children
abbrev Leaves : Policy → Place → NodeData → Fate → Type 0
Leaves policy place content fate = (below : ValueTrees) → AreSettledTrees policy (place_below fate place content).left below → AreSettledTrees policy place.left (left_of policy fate content below)

element-left : (policy : Policy) (place : Place) (e : Element) → Leaves policy place (AnElement e) (fate_of policy place (AnElement e))
element-left policy place e =
    cond_both (is_dropped policy e) Vanishes _ (Leaves policy place (AnElement e)) (λ _ below is. tt)
    (λ fresh. cond_both (may_stay policy place e) Stays Unwrapped (Leaves policy place (AnElement e))
    (λ stay below is.
    let name = e.name.local in
    let kind = kind_of name in
    let h = and_parts (is_html e.name.ns && is_among name policy.elements && admits place.scope kind) (nat_lt 0 place.left) stay in
    let k = and_parts (is_html e.name.ns && is_among name policy.elements) (admits place.scope kind) h.0 in
    let d = or_parts (is_some e.template_contents || is_unseen kind) (is_among name policy.dropped) fresh in
    let u = or_parts (is_some e.template_contents) (is_unseen kind) d.0 in
    let inner = cond_both (is_among name void_names) no_trees (held_by kind below) (AreSettledTrees policy (place.left - 1)) (λ _. tt) (λ _. settled_held policy (place.left - 1) kind below is) in (
      record { seen = u.1; undropped = d.1; named = (and_parts (is_html e.name.ns) (is_among name policy.elements) k.0).1 },
      h.1,
      attrs-staying policy e,
      inner,
      tt,
    ))
    (λ _ below is. is))

node-left : (policy : Policy) (place : Place) (content : NodeData) → Leaves policy place content (fate_of policy place content)
node-left policy place (Text contents) =
    cond_both (may_hold_text place.scope.parent (spellable contents)) Stays Vanishes (Leaves policy place (Text contents))
    (λ _ below is. settled_text policy place.left (spellable contents)) (λ _ below is. tt)
node-left policy place (AnElement e) = element-left policy place e
node-left policy place Document = λ below is. tt
node-left policy place Fragment = λ below is. tt
node-left policy place (Doctype n u s) = λ below is. tt
node-left policy place (Comment c) = λ below is. tt
node-left policy place (ProcessingInstruction t c) = λ below is. tt

found-left : (policy : Policy) (place : Place) (found : Option NodeData) (below : NodeData → ValueTrees) →
    ((content : NodeData) → AreSettledTrees policy (place_below (fate_of policy place content) place content).left (below content)) →
    AreSettledTrees policy place.left (option_map_or (λ content. left_of policy (fate_of policy place content) content (below content)) found no_trees)
found-left policy place None below is = tt
found-left policy place (Some content) below is = node-left policy place content (below content) (is content)

pub cleaned_settled : (policy : Policy) (forest : Forest) (place : Place) (ts : Trees) → AreSettledTrees policy place.left (cleaned policy forest place ts)
cleaned_settled policy forest place NoTrees = tt
cleaned_settled policy forest place (Tree n contents children later) =
    let below = λ (content : NodeData). cleaned policy forest (place_below (fate_of policy place content) place content) children in
    settled_followed policy place.left
    (option_map_or (λ content. left_of policy (fate_of policy place content) content (below content)) (slice_get forest.content n) no_trees) (cleaned policy forest place later)
    (found-left policy place (slice_get forest.content n) below (λ content. cleaned_settled policy forest (place_below (fate_of policy place content) place content) children))
    (cleaned_settled policy forest place later)
