-- What is calm in a body is calm in every element that may hold what a body holds.
use Rattle.std.proofs.Common.{◌≡◌, ℕ, true, not, ◌&&◌, List, [], refl, ap, ◌∙◌}
use Rattle.std.specs.Prelude.{codes}
use Rattle.dom_markup.specs.ValueTrees.{ValueTrees}
use Rattle.dom_markup.specs.ValueTrees.ValueTrees.{no_trees, text_node, comment_node, doctype_node, element_node}
use Rattle.page_trees.specs.ElementKinds.{holds_doctype, kind_of, may_hold, names_of}
use Rattle.page_trees.specs.declared.element_kinds.ElementCategory.{ElementCategory}
use Rattle.page_trees.specs.declared.element_kinds.ElementCategory.TheVariants.{Anchor, Block, Body, Button, Cell, Form, Head, Html, Item, Paragraph}
use Rattle.calm_pages.specs.Calm.{are_calm, bars, behind, behind_first, inside, may_hold_comment, may_hold_text, top}
use Rattle.calm_pages.specs.declared.nesting.Scope.{Scope}
use Rattle.standard_rules.specs.PlainTrees.{flow_contexts}
use Rattle.standard_rules.specs.TreeTokens.{is_among}
use Rattle.standard_rules.proofs.TreeLists.{of_each}
use Rattle.standard_laws.specs.CalmTrees.{scope_in}
use Rattle.standard_laws.proofs.CalmDocuments.{body_kind, calm_parts, head_kind, html_kind}
use Rattle.dom_clean.specs.Laws.{page_of, utf8_meta}

-- the scope of the outermost nodes below such a parent
abbrev below : ElementCategory → Scope
below parent = record top { parent = parent }

-- the parent may hold what a body may
record HoldsFlow (parent : ElementCategory) : Type 0 where
  kinds : (kind : ElementCategory) → may_hold parent kind ≡ may_hold Body kind
  texts : (text : List ℕ) → may_hold_text parent text ≡ may_hold_text Body text
  comments : (text : List ℕ) → may_hold_comment parent text ≡ may_hold_comment Body text
  doctype : holds_doctype parent ≡ holds_doctype Body
  stays : behind_first parent ≡ parent

body_flow : HoldsFlow Body
body_flow = record { kinds = λ kind. refl; texts = λ text. refl; comments = λ text. refl; doctype = refl; stays = refl }

block_flow : HoldsFlow Block
block_flow = record { kinds = λ kind. refl; texts = λ text. refl; comments = λ text. refl; doctype = refl; stays = refl }

item_flow : HoldsFlow Item
item_flow = record { kinds = λ kind. refl; texts = λ text. refl; comments = λ text. refl; doctype = refl; stays = refl }

cell_flow : HoldsFlow Cell
cell_flow = record { kinds = λ kind. refl; texts = λ text. refl; comments = λ text. refl; doctype = refl; stays = refl }

contexts : (context : List ℕ) → is_among context flow_contexts ≡ true → HoldsFlow (kind_of context)
unfolding kind_of names_of
contexts = of_each (λ context. HoldsFlow (kind_of context)) flow_contexts (body_flow, (block_flow, (item_flow, (cell_flow, (block_flow, tt)))))

-- outside of any other element the parent does not matter otherwise
same_bars : (parent kind : ElementCategory) → bars (below parent) kind ≡ bars (below Body) kind
same_bars parent Anchor = refl
same_bars parent _ = refl

same_inside : (parent kind : ElementCategory) → inside (below parent) kind ≡ inside (below Body) kind
same_inside parent Anchor = refl
same_inside parent Button = refl
same_inside parent Form = refl
same_inside parent Paragraph = refl
same_inside parent _ = refl

same_calm : (parent : ElementCategory) → HoldsFlow parent → (trees : ValueTrees) → are_calm (below parent) trees ≡ are_calm (below Body) trees
same_calm parent flow trees = by_trees trees
  where
    by_trees : (ts : ValueTrees) → are_calm (below parent) ts ≡ are_calm (below Body) ts
    by_trees no_trees = refl
    by_trees (text_node contents later) =
        ap (λ b. b && are_calm (behind (below parent)) later) (flow.texts contents)
        ∙ ap (λ (q : ElementCategory). may_hold_text Body contents && are_calm (below q) later) flow.stays ∙ ap (λ b. may_hold_text Body contents && b) (by_trees later)
    by_trees (comment_node contents later) =
        ap (λ b. b && are_calm (behind (below parent)) later) (flow.comments contents)
        ∙ ap (λ (q : ElementCategory). may_hold_comment Body contents && are_calm (below q) later) flow.stays ∙ ap (λ b. may_hold_comment Body contents && b) (by_trees later)
    by_trees (doctype_node name public system later) =
        ap (λ b. b && are_calm (behind (below parent)) later) flow.doctype
        ∙ ap (λ (q : ElementCategory). holds_doctype Body && are_calm (below q) later) flow.stays ∙ ap (λ b. holds_doctype Body && b) (by_trees later)
    by_trees (element_node name attributes children later) =
        let kind : ElementCategory = kind_of name in
        ap (λ b. ((b && not (bars (below parent) kind)) && are_calm (inside (below parent) kind) children) && are_calm (behind (below parent)) later) (flow.kinds kind)
        ∙ ap (λ b. ((may_hold Body kind && not b) && are_calm (inside (below parent) kind) children) && are_calm (behind (below parent)) later) (same_bars parent kind)
        ∙ ap (λ (s : Scope). ((may_hold Body kind && not (bars (below Body) kind)) && are_calm s children) && are_calm (behind (below parent)) later) (same_inside parent kind)
        ∙ ap (λ (q : ElementCategory). ((may_hold Body kind && not (bars (below Body) kind)) && are_calm (inside (below Body) kind) children) && are_calm (below q) later) flow.stays
        ∙ ap (λ b. ((may_hold Body kind && not (bars (below Body) kind)) && are_calm (inside (below Body) kind) children) && b) (by_trees later)

-- the contents of a calm body
body_calm : (trees : ValueTrees) → are_calm top (page_of trees) ≡ true → are_calm (below Body) trees ≡ true
body_calm trees c =
    let body : ValueTrees = element_node (codes "body") [] trees no_trees in
    let inner : ValueTrees = element_node (codes "head") [] utf8_meta body in
    let outer : (are_calm (inside top Html) inner ≡ true) × (are_calm top no_trees ≡ true) = calm_parts top (codes "html") Html [] inner no_trees html_kind c in
    let parts : (are_calm (inside (inside top Html) Head) utf8_meta ≡ true) × (are_calm (inside top Html) body ≡ true) = calm_parts (inside top Html) (codes "head") Head [] utf8_meta body head_kind outer.0 in
    (calm_parts (inside top Html) (codes "body") Body [] trees no_trees body_kind parts.1).0

pub fragment_calm : (trees : ValueTrees) → are_calm top (page_of trees) ≡ true → (context : List ℕ) → is_among context flow_contexts ≡ true → are_calm (scope_in context) trees ≡ true
fragment_calm trees c context is = same_calm (kind_of context) (contexts context is) trees ∙ body_calm trees c
