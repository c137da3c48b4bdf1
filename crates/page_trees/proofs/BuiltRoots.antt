-- The elements `html` and `head`, which are no templates.
use Rattle.std.proofs.Common.{◌≡◌, ℕ, ◌-◌, ◌||◌, Bool, true, false, List, [], ◌∷◌, refl, ap, ◌∙◌, length, Option, Some, None, codes}
use Rattle.std.specs.Prelude.{slice_get}
use Rattle.std.specs.Str.{bytes_eq}
use Rattle.std.proofs.lemmas.Slice.Eq.{bytes_eq-Decides}
use Rattle.standard_trees.specs.GrowingTree.{GrowingTree, current, is_among, kind_of}
use Rattle.standard_trees.specs.GrowingTree.{is_named as is_of_kind, is_one as is_one_of}
use Rattle.standard_trees.specs.TreeStore.{Kind, contents_in, key_in}
use Rattle.page_trees.specs.Stands.{Builds, IsCurrent, IsHeadNamed}
use Rattle.page_trees.specs.TreeState.{TreeState}
use Rattle.page_trees.specs.declared.stack.Open.{Open}
use Rattle.page_trees.proofs.BuiltStacks.{current_node}
use Rattle.page_trees.proofs.StandingNames.{kind_agrees}
use Rattle.page_trees.proofs.StandingPlaces.{template_known}

or_nothing : (b : Bool) → (b || false) ≡ true → b ≡ true
or_nothing true e = refl
or_nothing false e = e

-- an element with another name is no template
not_template : (name : List ℕ) → is_among name (codes "template" ∷ []) ≡ false → (kind : Kind) → is_of_kind (name ∷ []) kind ≡ true → is_of_kind (codes "template" ∷ []) kind ≡ false
not_template name other kind is =
    ap (λ (key : List ℕ). is_among key (codes "template" ∷ [])) ((bytes_eq-Decides (key_in kind) name).0 (or_nothing (bytes_eq (key_in kind) name) is)) ∙ other

no_contents : (name : List ℕ) → is_among name (codes "template" ∷ []) ≡ false → (r : Option Open) (kind : Kind) → IsCurrent r kind → is_of_kind (name ∷ []) kind ≡ true → contents_in kind ≡ None
no_contents name other None kind is named = ap contents_in is
no_contents name other (Some o) kind is named =
    ap contents_in is.kind ∙ is.plain (kind_agrees (codes "template" ∷ []) template_known o kind is ∙ not_template name other kind named)

pub head_named : (s : TreeState) (t : GrowingTree) → Builds s t → is_one_of t (codes "head" ∷ []) (current t) ≡ true → IsHeadNamed t.nodes (Some (current t))
head_named s t b is = (is, no_contents (codes "head") refl (slice_get s.stack (length s.stack - 1)) (kind_of t (current t)) (current_node s t b) is)

-- where nothing is open the current node is no element
pub no_head : (s : TreeState) (t : GrowingTree) → Builds s t → t.stack ≡ [] → is_one_of t (codes "head" ∷ []) (current t) ≡ false
no_head s t b none = by t.stack none
  where
    by : (stack : List ℕ) → stack ≡ [] → is_one_of t (codes "head" ∷ []) (current (record t { stack = stack })) ≡ false
    by [] e = ap (is_of_kind (codes "head" ∷ [])) b.nodes.root
    by (n ∷ ns) e = cc
