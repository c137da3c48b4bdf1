-- What the state of tree construction stands for once characters are inserted.
use Rattle.std.proofs.Common.{◌≡◌, ℕ, false, List, [], ◌∷◌, refl, sym, ap, subst, ◌∙◌}
use Rattle.std.specs.Prelude.{None, OnOk, Result}
use Rattle.standard_trees.specs.Building.{Building, perform, with_tree}
use Rattle.standard_trees.specs.Formatting.{reconstructed}
use Rattle.standard_trees.specs.GrowingTree.{GrowingTree, with_char, with_chars}
use Rattle.standard_trees.specs.RuleWords.{ReconstructFormatting}
use Rattle.page_trees.specs.CharacterSteps.{Inserts, InsertsInBody}
use Rattle.page_trees.specs.Constructs.{Constructs, Performs, RemembersLimits, first_fault}
use Rattle.page_trees.specs.Stands.{DoesAtAnyDepth}
use Rattle.page_trees.specs.TreeState.{TreeState}
use Rattle.page_trees.specs.declared.builder.TreeBuilder.{TreeBuilder}
use Rattle.page_trees.specs.declared.chars.Run.{Run}
use Rattle.page_trees.specs.declared.fault.PageFault.{PageFault}
use Rattle.page_trees.proofs.BuilderSteps.{moved, was_ok}
use Rattle.page_trees.proofs.SettledFormatting.{char_nodes}

fostering_kept : (cs : List ℕ) (t : GrowingTree) → (with_chars cs t).fostering ≡ t.fostering
fostering_kept [] t = refl
fostering_kept (c ∷ cs) t = fostering_kept cs (with_char c t) ∙ ap (λ (u : GrowingTree). u.fostering) (char_nodes c t)

pub chars_put : (old new : TreeBuilder) (tree : TreeState) (done : Result Unit PageFault) (cs : List ℕ) → new ≡ record old { tree = tree; fault = first_fault old.fault done } →
    (old.placing.in_head ≡ false → OnOk done (DoesAtAnyDepth old.placing (with_chars cs) old.tree tree)) → Inserts cs old new
chars_put old new tree done cs e does within b stands =
    let no : first_fault old.fault done ≡ None = sym (ap (λ (s : TreeBuilder). s.fault) e) ∙ within.fault in
    let built = was_ok old.fault done (DoesAtAnyDepth old.placing (with_chars cs) old.tree tree) no (does stands.in_head) b.tree stands.foster stands.tree in
    moved old new tree (first_fault old.fault done) old.too_deep e b (with_chars cs b.tree) stands built (fostering_kept cs b.tree)

-- "set the frameset-ok flag to 'not ok'"
pub spoiled : (old new : TreeBuilder) → new ≡ record old { frameset_ok = false } → (b : Building) → Constructs old b → Constructs new (record b { frameset_ok = false })
spoiled old new e b c = subst (λ (s : TreeBuilder). Constructs s (record b { frameset_ok = false })) (sym e) (record {
  tree = c.tree;
  foster = c.foster;
  in_head = c.in_head;
  mode = c.mode;
  original = c.original;
  template_modes = c.template_modes;
  frameset_ok = refl;
  scripting = c.scripting;
  quirks = c.quirks;
  unread = c.unread;
  pending = c.pending;
  skip = c.skip;
  tokenizer = c.tokenizer;
})

pub spoiled_limits : (old new : TreeBuilder) → new ≡ record old { frameset_ok = false } → RemembersLimits old new
spoiled_limits old new e within = record {
  fault = sym (ap (λ (s : TreeBuilder). s.fault) e) ∙ within.fault;
  depth = sym (ap (λ (s : TreeBuilder). s.too_deep) e) ∙ within.depth;
}

pub inline_put : (old between new : TreeBuilder) (cs : List ℕ) → RemembersLimits between new → Performs (ReconstructFormatting ∷ []) old between → Inserts cs between new →
    InsertsInBody Run.Spaces cs old new
unfolding perform
inline_put old between new cs limits first second within b stands =
    second within (with_tree b (reconstructed b.tree)) (first (limits within) b stands)
