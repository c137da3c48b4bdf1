-- What the state of tree construction stands for after the attributes of a later tag are merged into an element.
use Rattle.std.proofs.Common.{◌≡◌, ℕ, List, refl, sym, ap, ◌∙◌}
use Rattle.std.specs.Prelude.{None, OnOk, Option, Result, Some}
use Rattle.standard_trees.specs.GrowingTree.{GrowingTree, merged_into}
use Rattle.standard_trees.specs.TreeStore.{NodeAttr}
use Rattle.page_tokens.specs.declared.token.Tag.{Tag}
use Rattle.page_trees.specs.Constructs.{RemembersLimits, first_fault}
use Rattle.page_trees.specs.LateMerges.{MergesInto, MergesTagInto}
use Rattle.page_trees.specs.TreeState.{TreeState}
use Rattle.page_trees.specs.declared.builder.TreeBuilder.{TreeBuilder}
use Rattle.page_trees.specs.declared.fault.PageFault.{PageFault}
use Rattle.page_trees.proofs.BuilderSteps.{moved, no_fault, was_ok}

keeps_fostering : (n : Option ℕ) (attrs : List NodeAttr) (t : GrowingTree) → (merged_into n attrs t).fostering ≡ t.fostering
keeps_fostering None attrs t = refl
keeps_fostering (Some n) attrs t = refl

pub tag_merged : (old new : TreeBuilder) (done : Result Unit PageFault) (tree : TreeState) (n : Option ℕ) (tag : Tag) → new ≡ record old { tree = tree; fault = first_fault old.fault done } →
    OnOk done (MergesInto n tag old.tree tree) → MergesTagInto n tag old new
tag_merged old new done tree n tag e merges attrs has within b may c =
    let no : first_fault old.fault done ≡ None = sym (ap (λ (s : TreeBuilder). s.fault) e) ∙ within.fault in
    moved old new tree (first_fault old.fault done) old.too_deep e b (merged_into n attrs b.tree) c
    (was_ok old.fault done (MergesInto n tag old.tree tree) no merges attrs has b.tree may c.tree) (keeps_fostering n attrs b.tree)

pub merged_limits : (old new : TreeBuilder) (done : Result Unit PageFault) (tree : TreeState) → new ≡ record old { tree = tree; fault = first_fault old.fault done } → RemembersLimits old new
merged_limits old new done tree e within = record {
  fault = no_fault old.fault done (sym (ap (λ (s : TreeBuilder). s.fault) e) ∙ within.fault);
  depth = sym (ap (λ (s : TreeBuilder). s.too_deep) e) ∙ within.depth;
}
