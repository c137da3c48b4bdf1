-- Calm trees below a node, as they are cleaned again.
use Rattle.std.proofs.Common.{◌≡◌, ◌≢◌, ℕ, Bool, true, false, ◌&&◌, not, cond, List, [], ◌∷◌, refl, sym, ap, ◌∙◌}
use Rattle.std.proofs.lemmas.Bool.{and_from, and_parts, not-true}
use Rattle.dom_markup.specs.ValueTrees.{ValueTrees}
use Rattle.dom_markup.specs.ValueTrees.ValueTrees.{no_trees, text_node, comment_node, doctype_node, element_node}
use Rattle.page_trees.specs.ElementKinds.{kind_of, may_hold}
use Rattle.page_trees.specs.declared.element_kinds.ElementCategory.{ElementCategory}
use Rattle.page_trees.specs.declared.element_kinds.ElementCategory.TheVariants.{Block, Pre}
use Rattle.calm_pages.specs.Calm.{admits, are_calm, bars, begins_line, behind, behind_first, inside, may_hold_text}
use Rattle.calm_pages.specs.declared.nesting.Scope.{Scope}
use Rattle.dom_clean.specs.Cleaned.{held_by, text_or, without_lines}
use Rattle.dom_clean.specs.Joined.{AreTidy}
use Rattle.dom_clean.proofs.Lines.{lines_stay}

-- ---- what may stand first may stand later

abbrev in_pre : Scope → Scope
in_pre scope = record scope { parent = Pre }

abbrev in_block : Scope → Scope
in_block scope = record scope { parent = Block }

block-holds : (kind : ElementCategory) → may_hold Pre kind ≡ may_hold Block kind
block-holds _ = refl

block-bars : (scope : Scope) (kind : ElementCategory) → bars (in_pre scope) kind ≡ bars (in_block scope) kind
block-bars scope _ = refl

block-admits : (scope : Scope) (kind : ElementCategory) → admits (in_pre scope) kind ≡ admits (in_block scope) kind
block-admits scope kind = ap (λ b. b && not (bars (in_pre scope) kind)) (block-holds kind) ∙ ap (λ b. may_hold Block kind && not b) (block-bars scope kind)

block-inside : (scope : Scope) (kind : ElementCategory) → inside (in_pre scope) kind ≡ inside (in_block scope) kind
block-inside scope _ = refl

calm-block : (scope : Scope) (ts : ValueTrees) → are_calm (in_pre scope) ts ≡ true → are_calm (in_block scope) ts ≡ true
calm-block scope no_trees p = refl
calm-block scope (text_node c later) p = and_from (may_hold_text Block c) (are_calm (in_block scope) later) refl (and_parts (may_hold_text Pre c) (are_calm (in_block scope) later) p).1
calm-block scope (comment_node c later) p = p
calm-block scope (doctype_node n u s later) p = p
calm-block scope (element_node n a children later) p =
    ap (λ b. (b && are_calm (inside (in_block scope) (kind_of n)) children) && are_calm (in_block scope) later) (sym (block-admits scope (kind_of n)))
    ∙ ap (λ s. (admits (in_pre scope) (kind_of n) && are_calm s children) && are_calm (in_block scope) later) (sym (block-inside scope (kind_of n))) ∙ p

pub calm-later : (scope : Scope) (kind : ElementCategory) (ts : ValueTrees) → are_calm (inside scope kind) ts ≡ true → are_calm (behind (inside scope kind)) ts ≡ true
calm-later scope Pre ts p = calm-block scope ts p
calm-later scope _ ts p = p

pub twice-behind : (scope : Scope) → behind (behind scope) ≡ behind scope
twice-behind scope = ap (λ (kind : ElementCategory). record scope { parent = kind }) (kinds scope.parent)
  where
    kinds : (kind : ElementCategory) → behind_first (behind_first kind) ≡ behind_first kind
    kinds Pre = refl
    kinds _ = refl

-- ---- a `pre` holds what it is left with

text-stays : (text : List ℕ) (later others : ValueTrees) → text ≢ [] → text_or text later others ≡ text_node text later
text-stays [] later others some = absurd (some refl)
text-stays (b ∷ text) later others some = refl

lines-stay : (scope : Scope) (ts : ValueTrees) → AreTidy ts → are_calm (in_pre scope) ts ≡ true → without_lines ts ≡ ts
lines-stay scope no_trees tidy p = refl
lines-stay scope (text_node c later) tidy p =
    let h = and_parts (may_hold_text Pre c) (are_calm (in_block scope) later) p in
    ap (λ t. text_or t later (without_lines later)) (lines_stay c (not-true (begins_line c) h.0)) ∙ text-stays c later (without_lines later) tidy.0
lines-stay scope (comment_node c later) tidy p = refl
lines-stay scope (doctype_node n u s later) tidy p = refl
lines-stay scope (element_node n a children later) tidy p = refl

pub held-stays : (scope : Scope) (kind : ElementCategory) (ts : ValueTrees) → AreTidy ts → are_calm (inside scope kind) ts ≡ true → held_by kind ts ≡ ts
held-stays scope Pre ts tidy p = lines-stay scope ts tidy p
held-stays scope _ ts tidy p = refl

-- the children of a void element
pub void-stays : (void : Bool) (left children : ValueTrees) → (void ≡ true → children ≡ no_trees) → left ≡ children → cond void no_trees left ≡ children
void-stays true left children none same = sym (none refl)
void-stays false left children none same = same
