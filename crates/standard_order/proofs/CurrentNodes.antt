-- Where a turn may begin, an element is open in every mode after "before html", and in "text" and "in table text" the current node is an
-- HTML element.
use Rattle.std.specs.Prelude.{◌≡◌, ◌||◌, ◌&&◌, refl, ℕ, Bool, true, false, not, List, [], ◌∷◌, Option, None, Some, cond, unwrap_or}
use Rattle.std.proofs.Common.{inl}
use mathlib.Core.Path.{◌∙◌, ap, subst}
use Rattle.standard_trees.specs.RuleWords.{Mode}
use Rattle.standard_trees.specs.RuleWords.{Dispatcher, Initial, BeforeHtml, BeforeHead, InHead, InHeadNoscript, AfterHead, InBody, Text}
use Rattle.standard_trees.specs.RuleWords.{InTable, InTableText, InCaption, InColumnGroup, InTableBody, InRow, InCell, InTemplate}
use Rattle.standard_trees.specs.RuleWords.{AfterBody, InFrameset, AfterFrameset, AfterAfterBody, AfterAfterFrameset, ForeignContent}
use Rattle.standard_trees.specs.TreeStore.{Kind, is_html, key_in, space_in}
use Rattle.standard_trees.specs.GrowingTree.{GrowingTree, adjusted_current, current, is_among, is_single, kind_of, top}
use Rattle.standard_trees.specs.Building.{Building, is_empty}
use Rattle.standard_order.specs.CurrentNodes.{CurrentNodesAreKnown, has_current, is_insertion_mode, takes_text}
use Rattle.standard_order.specs.Order.{is_before_html}
use Rattle.standard_order.proofs.Labels.{Is as IsAt, Label, kind_at, labels}
use Rattle.standard_order.proofs.StandingStacks.{Inside, IsRoot, both, fixed}
use Rattle.standard_order.proofs.GoodTrees.{Good, held}
use Rattle.standard_order.proofs.Levels.{Held, Of, Shape, is_cell, is_inside, own}
use Rattle.standard_order.proofs.LevelFacts.{Stk, TreeIs, Turn, TurnIs, held_more, inner, inner_more, never_empty}
use Rattle.standard_order.proofs.LevelTrees.{good_of, inside_own}
use Rattle.standard_order.proofs.TurnsRun.{fact_needs_no_test}

-- ---- the current node

-- where more than one element is open, it is the adjusted current node
pub html_now : (t : GrowingTree) → is_single t.stack ≡ false → is_html (space_in (kind_of t (current t))) ≡ true →
    is_html (space_in (adjusted_current t)) ≡ true
html_now t e h =
    ap (λ x. is_html (space_in (cond x (unwrap_or t.context (kind_of t (current t))) (kind_of t (current t))))) e ∙ h

held_html : (shape : Shape) (t : GrowingTree) → TreeIs (Held shape) t → is_html (space_in (adjusted_current t)) ≡ true
held_html shape t at = by t.stack refl at.0
  where
    by : (s : List ℕ) → t.stack ≡ s → Stk (Held shape) (labels t.nodes) s → is_html (space_in (adjusted_current t)) ≡ true
    by [] e h = absurd h
    by (n ∷ ns) e h = html_now t (held_more shape (labels t.nodes) t.stack at.0)
        (ap (λ s. is_html (space_in (kind_of t (top s)))) e
        ∙ (both (is_html (space_in (kind_of t n))) (not (is_among (key_in (kind_of t n)) fixed)) (kind_at held t.nodes n h.0)).0)

top_html : (b : Building) → is_inside b.original ≡ true → TreeIs (own b.original) b.tree →
    IsAt inner (labels b.tree.nodes) (top b.tree.stack) → is_html (space_in (adjusted_current b.tree)) ≡ true
top_html b i at h =
    html_now b.tree (inner_more Inside (labels b.tree.nodes) b.tree.stack good.0 h)
    (both (is_html (space_in (kind_of b.tree (top b.tree.stack)))) _ (kind_at inner b.tree.nodes (top b.tree.stack) h)).0
  where
    good : Good Inside (is_cell b.original) b.tree
    good = good_of Inside (is_cell b.original) b.original Of b.tree (inside_own b.original i) (inl refl) at

-- ---- an element is open

some_open : (s : List ℕ) → (s ≡ [] → ⊥) → not (is_empty s) ≡ true
some_open [] h = absurd (h refl)
some_open (n ∷ ns) h = refl

shape_open : (shape : Shape) (t : GrowingTree) → TreeIs shape t → not (is_empty t.stack) ≡ true
shape_open shape t at = some_open t.stack (λ e. never_empty shape (labels t.nodes) (subst (Stk shape (labels t.nodes)) e at.0))

root_open : (ls : List Label) (s : List ℕ) → IsRoot ls s → not (is_empty s) ≡ true
root_open ls [] h = absurd h
root_open ls (r ∷ ns) h = refl

-- ---- turns

both_so : (x y : Bool) → x ≡ true → y ≡ true → x && y ≡ true
both_so true y e f = f
both_so false y e f = e

known : (b : Building) → Turn b → has_current b ≡ true
known b turn = by b.mode turn.1
  where
    by : (m : Mode) → TurnIs m b →
        is_insertion_mode m &&
        ((not (takes_text m) || is_html (space_in (adjusted_current b.tree))) && (is_before_html m || not (is_empty b.tree.stack))) ≡ true
    by Dispatcher h = absurd h.0
    by Initial h = refl
    by BeforeHtml h = refl
    by BeforeHead h = root_open (labels b.tree.nodes) b.tree.stack h.0
    by InHead h = shape_open (own InHead) b.tree h
    by InHeadNoscript h = shape_open (own InHeadNoscript) b.tree h
    by AfterHead h = shape_open (own AfterHead) b.tree h
    by InBody h = shape_open (own InBody) b.tree h
    by Text h = both_so (is_html (space_in (adjusted_current b.tree))) (not (is_empty b.tree.stack)) (held_html (own b.original) b.tree h)
        (shape_open (Held (own b.original)) b.tree h)
    by InTable h = shape_open (own InTable) b.tree h
    by InTableText h = both_so (is_html (space_in (adjusted_current b.tree))) (not (is_empty b.tree.stack)) (top_html b h.1 h.0 h.2)
        (shape_open (own b.original) b.tree h.0)
    by InCaption h = shape_open (own InCaption) b.tree h
    by InColumnGroup h = shape_open (own InColumnGroup) b.tree h
    by InTableBody h = shape_open (own InTableBody) b.tree h
    by InRow h = shape_open (own InRow) b.tree h
    by InCell h = shape_open (own InCell) b.tree h
    by InTemplate h = shape_open (own InTemplate) b.tree h
    by AfterBody h = shape_open (own AfterBody) b.tree h
    by InFrameset h = shape_open (own InFrameset) b.tree h
    by AfterFrameset h = shape_open (own AfterFrameset) b.tree h
    by AfterAfterBody h = shape_open (own AfterAfterBody) b.tree h
    by AfterAfterFrameset h = shape_open (own AfterAfterFrameset) b.tree h
    by ForeignContent h = absurd h.0

pub current_nodes_are_known : CurrentNodesAreKnown
current_nodes_are_known test depth beginning tokens end h =
    fact_needs_no_test has_current known test depth beginning tokens end h
