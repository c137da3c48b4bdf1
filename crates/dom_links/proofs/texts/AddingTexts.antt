-- A text comes to a gap.
use Rattle.std.proofs.Common.{ℕ, ◌≡◌, ◌<◌, true, false, List, [], ◌∷◌, Option, Some, None, refl, sym, ap, ◌∙◌, subst, arith, inl, inr, length}
use Rattle.std.specs.Prelude.{◌==◌, ◌||◌, not}
use Rattle.std.specs.Option.{option_map_or}
use Rattle.std.proofs.lemmas.Bool.{ne_eqb}
use Rattle.std.proofs.lemmas.List.{length_push}
use Rattle.dom_nodes.specs.Kinds.{is_top, children_allowed}
use Rattle.dom_nodes.specs.declared.node_data.NodeData.{NodeData}
use Rattle.dom_nodes.specs.declared.node_data.NodeData.TheVariants.{Text}
use Rattle.dom_nodes.specs.declared.node_data.TreeNode.{TreeNode}
use Rattle.dom_links.specs.AddedTexts.{lengthened, text_before, with_more, with_node_at, with_text_at}
use Rattle.dom_links.specs.Contents.{KeepsKind, with_content}
use Rattle.dom_links.specs.Forest.{Forest, StandsOnce, forest_of}
use Rattle.dom_links.specs.Growth.{MayAppend, with_child, with_node}
use Rattle.dom_links.specs.ListMoves.{Moves}
use Rattle.dom_links.specs.Moves.{InsertionPoint, end_of, front_of, before_node, after_node, put}
use Rattle.dom_links.specs.declared.gap.MovedNodes.TheVariants.{Node}
use Rattle.dom_links.specs.Sound.{Allowed, IsForest, IsOpenGap, IsSoundArena, IsHostAncestor, is_open, one_step, stays, target, then_step}
use Rattle.dom_links.proofs.moves.BlockMoves.{moved_one}
use Rattle.dom_links.proofs.forest.Appends.{detach-alone, new_alone}
use Rattle.dom_links.proofs.forest.Climbs.{contents_at-known}
use Rattle.dom_links.proofs.forest.Depth.{parent_inside}
use Rattle.dom_links.proofs.moves.Dissolving.{still_sound}
use Rattle.dom_links.proofs.forest.Grown.{contents-more, once-more, parent-more, slice_get-before, slice_get-there, test-more}

pub keeps_longer : (more : List ℕ) → KeepsKind (lengthened more)
keeps_longer more (Text a) = record { top = refl; fragment = refl; parents_allow = refl; contents = refl }
keeps_longer more _ = record { top = refl; fragment = refl; parents_allow = refl; contents = refl }

-- nothing is reached from a new text
no_way : (text : List ℕ) (forest : Forest) → IsForest forest → (m n : ℕ) → IsHostAncestor (with_node (Text text) forest) m n → m ≡ length forest.content → ⊥
no_way text forest good _ _ (one_step m n (inl p)) new =
    let known = parent_inside forest n m good (sym (parent-more (Text text) forest n) ∙ p) in
    absurd (omega (arith, new))
no_way text forest good _ _ (one_step m n (inr held)) new = elim (contents-more (Text text) forest m n held) [
  | inl old ↦ (let known = contents_at-known forest m n old in absurd (omega (arith, new)))
  | inr named ↦ (let none = named.1 in cc)
]
no_way text forest good _ _ (then_step m k n way step) new = no_way text forest good m k way new

stays-more : (content : NodeData) (forest : Forest) (n : ℕ) → n < length forest.content → stays (with_node content forest) n ≡ stays forest n
stays-more content forest n known = ap (λ o. (n == 0) || option_map_or is_top o false) (slice_get-before forest.content content n known)

open-more : (content : NodeData) (forest : Forest) (gap : InsertionPoint) → target gap < length forest.content → is_open gap forest ≡ true → is_open gap (with_node content forest) ≡ true
open-more content forest (end_of t) known open_here = test-more children_allowed forest.content content t open_here
open-more content forest (front_of t) known open_here = test-more children_allowed forest.content content t open_here
open-more content forest (before_node t) known open_here = ap not (stays-more content forest t known) ∙ open_here
open-more content forest (after_node t) known open_here = ap not (stays-more content forest t known) ∙ open_here

-- a new text may be put at an open gap
new_allowed : (forest : Forest) (gap : InsertionPoint) (text : List ℕ) → IsForest forest → target gap < length forest.content → is_open gap forest ≡ true → Allowed (with_node (Text text) forest) gap (length forest.content)
new_allowed forest gap text good known open_here =
    let long = length_push forest.content (Text text) in
    let not_root : (length forest.content == 0) ≡ false = ne_eqb (length forest.content) 0 (λ e. absurd (omega arith)) in
    record {
      target_known = omega (arith, long, known);
      known = omega (arith, long);
      open_here = open-more (Text text) forest gap known open_here;
      may = record {
        moves = rw (not_root, slice_get-there forest.content (Text text) (length forest.content) refl) refl;
        apart = λ e. absurd (omega (arith, known, e));
        free = λ way. no_way text forest good (length forest.content) (target gap) way refl;
      };
    }

pub allowed_at : (forest now : Forest) (gap : InsertionPoint) (x : ℕ) (text : List ℕ) → IsForest forest → target gap < length forest.content → is_open gap forest ≡ true → now ≡ with_node (Text text) forest → x ≡ length forest.content → Allowed now gap x
allowed_at forest now gap x text good known open_here made number =
    subst (λ (f : Forest). Allowed f gap x) (sym made) (subst (λ (c : ℕ). Allowed (with_node (Text text) forest) gap c) (sym number) (new_allowed forest gap text good known open_here))

-- no text stands before the gap, so a new one is made
pub none_before : (gap : InsertionPoint) (text : List ℕ) (forest : Forest) → text_before gap forest ≡ None → with_node_at gap (Text text) forest ≡ with_text_at gap text forest
none_before gap text forest none = ap (λ (before : Option ℕ). with_more before gap text forest) (sym none)

-- the same of a new one that is made as the last child: it stood nowhere before
pub last_child_text : (t : ℕ) (text : List ℕ) (forest : Forest) → StandsOnce forest → text_before (end_of t) forest ≡ None → with_child t (Text text) forest ≡ with_text_at (end_of t) text forest
last_child_text t text forest once none =
    let more = with_node (Text text) forest in
    let n = length forest.content in
    ap (put (end_of t) (n ∷ [])) (sym (detach-alone more n (once-more (Text text) forest once) (new_alone (Text text) forest once)))
    ∙ none_before (end_of t) text forest none

-- a text may be made as the last child of a node that may have children
pub text_may_append : (t : ℕ) (text : List ℕ) (forest : Forest) → IsOpenGap (end_of t) forest → MayAppend forest t (Text text)
text_may_append t text forest opens = record {
  target_known = opens.0;
  open_here = opens.1;
  no_top = refl;
  free = λ c named. (let none : None ≡ Some c = named in cc);
  apart = λ c named at. (let none : None ≡ Some c = named in cc);
}

pub some_before : (gap : InsertionPoint) (text : List ℕ) (forest : Forest) (n : ℕ) → Some n ≡ text_before gap forest → with_content n (lengthened text) forest ≡ with_text_at gap text forest
some_before gap text forest n some = ap (λ (before : Option ℕ). with_more before gap text forest) some

pub placed_sound : (old new : List TreeNode) (gap : InsertionPoint) (x : ℕ) → IsSoundArena old → Allowed (forest_of old) gap x → Moves old new gap (Node x) → IsSoundArena new
placed_sound old new gap x sound allowed moved =
    let one = moved_one old new gap x moved in
    still_sound old new sound one.linked (one.kept allowed sound.forest) (ap (λ (f : Forest). length f.content) one.made)
