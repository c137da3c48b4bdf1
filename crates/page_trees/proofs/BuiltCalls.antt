-- A call that may fail is a step of the definition where it does not.
use Rattle.std.proofs.Common.{◌≡◌, ◌<◌, ◌≤◌, ℕ, List, [], ◌∷◌, ◌++◌, Result, Ok, Err, ap, arith, length, sym, subst, true≢false, ◌∙◌}
use Rattle.std.specs.Prelude.{OnOk}
use Rattle.std.proofs.lemmas.List.{length_push}
use Rattle.dom_links.specs.Forest.{Forest}
use Rattle.dom_links.specs.Sound.{IsForest}
use Rattle.dom_links.specs.declared.gap.InsertionPoint.TheVariants.{EndOf as TheEndOf}
use Rattle.page_tokens.specs.declared.token.Tag.{Tag}
use Rattle.standard_trees.specs.GrowingTree.{GrowingTree, inserted_at}
use Rattle.standard_trees.specs.TreeStore.{EndOf, Html, NodeAttr}
use Rattle.page_trees.specs.Elements.{IsRooted}
use Rattle.page_trees.specs.Insertions.{MakesNext, open_for_tag, with_tag_at}
use Rattle.page_trees.specs.Scopes.{is_name}
use Rattle.page_trees.specs.Stands.{Builds, IsTagOf}
use Rattle.page_trees.specs.TreeState.{TreeState}
use Rattle.page_trees.specs.declared.fault.PageFault.{PageFault}
use Rattle.page_trees.specs.declared.name.Name.{Name}
use Rattle.page_trees.specs.declared.stack.ElementNamespace.{ElementNamespace}
use Rattle.page_trees.specs.declared.stack.Open.{Open}
use Rattle.page_trees.proofs.BuiltNodes.{element_built, root_open, root_point}

pub on_ok : (P Q : Type 0) (r : Result (Unit {0}) PageFault) → OnOk r P → (P → Q) → OnOk r Q
on_ok P Q (Err fault) is step = tt
on_ok P Q (Ok done) is step = step is

-- there was room for an element that was pushed
pub room_before : (old new : List Open) (o : Open) (max : ℕ) → new ≡ old ++ o ∷ [] → length new ≤ max → length old < max
room_before old new o max e room = (let long = ap (λ (os : List Open). length os) e ∙ length_push old o in omega (arith, long, room))

-- the element `html`, which is put at the end of the root
pub root_built : (s : TreeState) (t : GrowingTree) (h : Forest) (n : ℕ) (tag : Tag) (written : List ℕ) (attrs : List NodeAttr) (made : Open) (stack : List Open) → Builds s t → IsForest s.forest →
    IsRooted s.forest → n ≡ 0 → IsTagOf ElementNamespace.Html Name.Html tag written attrs → MakesNext made.id s.forest h (with_tag_at (TheEndOf n) ElementNamespace.Html Name.Html tag s.forest) →
    made ≡ open_for_tag ElementNamespace.Html Name.Html tag made.id → stack ≡ s.stack ++ made ∷ [] → Builds (record s { forest = h; stack = stack }) (inserted_at (EndOf 0) Html written attrs t)
root_built s t h n tag written attrs made stack b good rooted root is next shape pushed =
    element_built s t h (TheEndOf 0) (EndOf 0) ElementNamespace.Html Name.Html tag written attrs made made 0 stack b good (root_open s.forest good rooted) (root_point s t b) is
    (λ other. absurd (true≢false (sym (ap (λ (n : Name). is_name n Name.Other) other))))
    (subst (λ (k : ℕ). MakesNext made.id s.forest h (with_tag_at (TheEndOf k) ElementNamespace.Html Name.Html tag s.forest)) root next)
    shape (shape ∙ sym (ap (λ (o : Open). record o { number = 0 }) shape)) pushed
