-- What the state of tree construction stands for after a step: a field is set, or the tree is changed.
use Rattle.std.proofs.Common.{◌≡◌, Bool, true, false, [], ◌∷◌, refl, sym, ap, subst, ◌∙◌, true≢false}
use Rattle.std.specs.Prelude.{None, OnOk, Option, Some, Result, Ok, Err}
use Rattle.standard_trees.specs.Building.{Building, FullQuirks, perform, with_tree}
use Rattle.standard_trees.specs.GrowingTree.{GrowingTree}
use Rattle.standard_trees.specs.RuleWords.{BeforeHtml, InBody, Pop, SetQuirks, SwitchTo}
use Rattle.dom_trees.specs.declared.quirks.QuirksMode.{QuirksMode}
use Rattle.page_trees.specs.Constructs.{Constructs, Performs, RemembersLimits, WithinLimits}
use Rattle.page_trees.specs.Constructs.{first_fault, is_entered_plainly, returns_later}
use Rattle.page_trees.specs.Modes.{mode_of}
use Rattle.page_trees.specs.Stands.{Builds, Does, popped}
use Rattle.page_trees.specs.TreeState.{TreeState}
use Rattle.page_trees.specs.declared.builder.Mode.{Mode}
use Rattle.page_trees.specs.declared.builder.TreeBuilder.{TreeBuilder}
use Rattle.page_trees.specs.declared.fault.PageFault.{PageFault}

-- ---- limits

pub no_fault : (f : Option PageFault) (done : Result Unit PageFault) → first_fault f done ≡ None → f ≡ None
no_fault None done h = refl
no_fault (Some fault) done h = h

pub was_ok : (f : Option PageFault) (done : Result Unit PageFault) (P : Type 0) → first_fault f done ≡ None → OnOk done P → P
was_ok None (Ok u) P h p = p
was_ok None (Err fault) P h p = absurd (cc)
was_ok (Some fault) done P h p = absurd (cc)

-- within the limits, what was kept was no fault
pub kept_same : (old new : TreeBuilder) (done : Result Unit PageFault) → new ≡ record old { fault = first_fault old.fault done } → WithinLimits new → new ≡ old
kept_same old new done e within =
    let none : first_fault old.fault done ≡ None = sym (ap (λ (s : TreeBuilder). s.fault) e) ∙ within.fault in
    e ∙ ap (λ f. record old { fault = f }) (none ∙ sym (no_fault old.fault done none))

pub kept_limits : (old new : TreeBuilder) (done : Result Unit PageFault) → new ≡ record old { fault = first_fault old.fault done } → RemembersLimits old new
kept_limits old new done e within = subst WithinLimits (kept_same old new done e within) within

-- behind an edit, what is known of limits
pub limits_kept : (old kept new : TreeBuilder) (done : Result Unit PageFault) → kept.fault ≡ first_fault old.fault done → kept.too_deep ≡ old.too_deep → new.fault ≡ kept.fault →
    (new.too_deep ≡ false → kept.too_deep ≡ false) → RemembersLimits old new
limits_kept old kept new done e f g h w =
    record { fault = no_fault old.fault done (sym e ∙ sym g ∙ w.fault); depth = sym f ∙ h w.depth }

-- ---- the tree

-- The tree is changed, and nothing else but what is known of limits.
pub moved : (old new : TreeBuilder) (tree : TreeState) (fault : Option PageFault) (deep : Bool) → new ≡ record old { tree = tree; fault = fault; too_deep = deep } →
    (b : Building) (t : GrowingTree) → Constructs old b → Builds tree t → t.fostering ≡ b.tree.fostering → Constructs new (with_tree b t)
moved old new tree fault deep e b t c built same = subst (λ (s : TreeBuilder). Constructs s (with_tree b t)) (sym e) (record {
  tree = built;
  foster = same ∙ c.foster;
  in_head = c.in_head;
  mode = c.mode;
  original = c.original;
  template_modes = c.template_modes;
  frameset_ok = c.frameset_ok;
  scripting = c.scripting;
  quirks = c.quirks;
  unread = c.unread;
  pending = c.pending;
  skip = c.skip;
  tokenizer = c.tokenizer;
})

-- ---- the mode

not_returning : (m : Mode) → is_entered_plainly m ≡ true → returns_later m ≡ true → ⊥
not_returning Mode.Initial e h = true≢false (sym e)
not_returning Mode.Text e h = true≢false (sym e)
not_returning Mode.InTableText e h = true≢false (sym e)
not_returning _ e h = true≢false (sym h)

pub entered : (old new : TreeBuilder) (m : Mode) → new ≡ record old { mode = m } → is_entered_plainly m ≡ true → (b : Building) → Constructs old b →
    Constructs new (perform (SwitchTo (mode_of m)) b)
unfolding perform
entered old new m e plain b c = subst (λ (s : TreeBuilder). Constructs s (record b { mode = mode_of m })) (sym e) (record {
  tree = c.tree;
  foster = c.foster;
  in_head = c.in_head;
  mode = refl;
  original = λ h. absurd (not_returning m plain h);
  template_modes = c.template_modes;
  frameset_ok = c.frameset_ok;
  scripting = c.scripting;
  quirks = c.quirks;
  unread = λ h. absurd (true≢false (sym plain ∙ ap is_entered_plainly h));
  pending = λ h. absurd (true≢false (sym plain ∙ ap is_entered_plainly h));
  skip = c.skip;
  tokenizer = c.tokenizer;
})

-- "pop the current node"
pub popped_one : (old : TreeBuilder) (tree : TreeState) → Does popped old.tree tree → (b : Building) → Constructs old b →
    Constructs (record old { tree = tree }) (perform Pop b)
unfolding perform
popped_one old tree does b c = moved old (record old { tree = tree }) tree old.fault old.too_deep refl b (popped b.tree) c (does b.tree c.tree) refl

-- ---- "set the Document to quirks mode, then switch the insertion mode to before html"

pub quirks_set : (old new : TreeBuilder) → new ≡ record old { quirks = QuirksMode.Quirks; mode = Mode.BeforeHtml } → (b : Building) → Constructs old b →
    Constructs new (perform (SwitchTo BeforeHtml) (perform SetQuirks b))
unfolding perform
quirks_set old new e b c = subst (λ (s : TreeBuilder). Constructs s (record b { quirks = FullQuirks; mode = BeforeHtml })) (sym e) (record {
  tree = c.tree;
  foster = c.foster;
  in_head = c.in_head;
  mode = refl;
  original = λ h. absurd (true≢false (sym h));
  template_modes = c.template_modes;
  frameset_ok = c.frameset_ok;
  scripting = c.scripting;
  quirks = refl;
  unread = λ h. absurd (true≢false (ap is_entered_plainly h));
  pending = λ h. absurd (true≢false (ap is_entered_plainly h));
  skip = c.skip;
  tokenizer = c.tokenizer;
})

-- ---- behind a switch of the mode

pub same_limits : (old new : TreeBuilder) (m : Mode) → new ≡ record old { mode = m } → WithinLimits new → WithinLimits old
same_limits old new m e w = record {
  fault = sym (ap (λ (s : TreeBuilder). s.fault) e) ∙ w.fault;
  depth = sym (ap (λ (s : TreeBuilder). s.too_deep) e) ∙ w.depth;
}

pub back_in_body : (old new : TreeBuilder) → new ≡ record old { mode = Mode.InBody } → Performs (SwitchTo InBody ∷ []) old new
back_in_body old new e within b c = entered old new Mode.InBody e refl b c
