-- What the state of tree construction stands for after an element is inserted into the head.
use Rattle.std.proofs.Common.{◌≡◌, ◌≤◌, ℕ, length, suc, Bool, true, false, List, refl, sym, ap, subst, ◌∙◌}
use Rattle.std.specs.Prelude.{None, OnOk, Some, Result}
use Rattle.standard_trees.specs.Building.{Building, own_name, with_tree}
use Rattle.standard_trees.specs.GrowingTree.{GrowingTree, created, fresh, inserted_at, is_template}
use Rattle.standard_trees.specs.TreeStore.{ContentsNode, ElementNode, Html, NodeAttr, Place}
use Rattle.page_tokens.specs.declared.token.Tag.{Tag}
use Rattle.page_trees.specs.Constructs.{Constructs, IsCurrentTag, WithinLimits, first_fault}
use Rattle.page_trees.specs.HeadSteps.{place_in_head}
use Rattle.page_trees.specs.Modes.{is_start_kind}
use Rattle.page_trees.specs.Stands.{DoesIn, inserted_in}
use Rattle.page_trees.specs.TagInsertions.{InsertsTagAt}
use Rattle.page_trees.specs.TreeState.{TreeState}
use Rattle.page_trees.specs.declared.builder.TreeBuilder.{TreeBuilder}
use Rattle.page_trees.specs.declared.fault.PageFault.{PageFault}
use Rattle.page_trees.specs.declared.name.Name.{Name}
use Rattle.page_trees.specs.declared.stack.ElementNamespace.{ElementNamespace}
use Rattle.page_trees.proofs.BuilderSteps.{moved, was_ok}
use Rattle.page_trees.proofs.ElementSteps.{Noted, current_element}
use Rattle.page_trees.proofs.HeadAgain.{inserted_in_head}

fostering_stays : (spot : Place) (name : List ℕ) (attrs : List NodeAttr) (t : GrowingTree) → (inserted_at spot Html name attrs t).fostering ≡ t.fostering
fostering_stays spot name attrs t = by (is_template Html name)
  where
    by : (x : Bool) → (let made : GrowingTree = elim x [
      | true ↦ created ContentsNode (created (ElementNode Html name attrs (Some (suc (fresh t)))) t)
      | false ↦ created (ElementNode Html name attrs None) t
    ] in made.fostering) ≡ t.fostering
    by true = refl
    by false = refl

-- the same as where the appropriate place is taken, with the end of the head element as the place
pub noted_in_head : (old kept new : TreeBuilder) (done : Result Unit PageFault) (tree : TreeState) (name : List ℕ) (attrs : List NodeAttr) →
    kept ≡ record old { tree = tree; fault = first_fault old.fault done } → Noted kept new →
    OnOk done (DoesIn (record old.placing { in_head = true }) (inserted_in (record old.placing { in_head = true }) Html name attrs) old.tree tree) → WithinLimits new →
    (b : Building) → Constructs old b → Constructs new (with_tree b (inserted_at (place_in_head b.tree) Html name attrs b.tree))
noted_in_head old kept new done tree name attrs e n does within b c =
    let whole : new ≡ record old { tree = tree; fault = first_fault old.fault done; too_deep = new.too_deep } = n.0 ∙ ap (λ (s : TreeBuilder). record s { too_deep = new.too_deep }) e in
    let no : first_fault old.fault done ≡ None = sym (ap (λ (s : TreeBuilder). s.fault) whole) ∙ within.fault in
    let fits : length tree.stack ≤ old.placing.max_depth = subst (λ (s : TreeBuilder). length s.tree.stack ≤ s.placing.max_depth) e (n.2 within.depth) in
    let built = was_ok old.fault done (DoesIn (record old.placing { in_head = true }) (inserted_in (record old.placing { in_head = true }) Html name attrs) old.tree tree) no does fits b.tree c.foster c.tree in
    moved old new tree (first_fault old.fault done) new.too_deep whole b _ c built (fostering_stays (place_in_head b.tree) name attrs b.tree)

-- behind what comes before, and before what comes after
pub element_in_head_by : (name : Name) (tag : Tag) (front new : TreeBuilder) (b d : Building) → is_start_kind tag.kind ≡ true → IsCurrentTag name tag d →
    InsertsTagAt place_in_head ElementNamespace.Html name tag front new → own_name d.token ≡ own_name b.token → d.attrs ≡ b.attrs → WithinLimits new → Constructs front d →
    Constructs new (with_tree d (inserted_in_head (own_name b.token) b.attrs d.tree))
element_in_head_by name tag front new b d start current inserts named given within c =
    subst (λ written. Constructs new (with_tree d (inserted_in_head written b.attrs d.tree))) named
    (subst (λ attrs. Constructs new (with_tree d (inserted_in_head (own_name d.token) attrs d.tree))) given
    (inserts (own_name d.token) d.attrs (current_element name tag d start current) within d c))
