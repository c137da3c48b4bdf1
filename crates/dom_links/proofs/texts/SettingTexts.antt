-- The text of a node is set.
use Rattle.std.proofs.Common.{ℕ, zero, suc, ◌≡◌, true, false, List, [], ◌∷◌, None, refl, sym, ap, ◌∙◌, subst, arith, length}
use Rattle.std.specs.Prelude.{slice_get}
use Rattle.std.specs.Option.{option_map_or}
use Rattle.std.proofs.lemmas.List.{length_push}
use Rattle.dom_nodes.specs.Kinds.{is_element, is_text, children_allowed}
use Rattle.dom_nodes.specs.declared.node_data.NodeData.{NodeData}
use Rattle.dom_nodes.specs.declared.node_data.NodeData.TheVariants.{Text}
use Rattle.dom_nodes.specs.declared.node_data.TreeNode.{TreeNode}
use Rattle.dom_links.specs.Contents.{KeepsKind, changed_at, with_content}
use Rattle.dom_links.specs.Forest.{Forest, children_of, forest_of}
use Rattle.dom_links.specs.Growth.{MayAppend, with_node}
use Rattle.dom_links.specs.ListMoves.{ChildrenRemoved, Moves, element_at}
use Rattle.dom_links.specs.Moves.{detach, end_of}
use Rattle.dom_links.specs.declared.gap.MovedNodes.TheVariants.{Node}
use Rattle.dom_links.specs.SetTexts.{is_text_at, with_text_data, with_text_content}
use Rattle.dom_links.specs.Sound.{Allowed, IsForest, IsSoundArena}
use Rattle.dom_links.proofs.forest.Appends.{may_place_new}
use Rattle.dom_links.proofs.moves.BlockKept.{cut_parents, ways_none}
use Rattle.dom_links.proofs.moves.BlockMoves.{moved_one}
use Rattle.dom_links.proofs.moves.Dissolving.{still_sound}
use Rattle.dom_links.proofs.forest.Grown.{test-more, within}
use Rattle.dom_links.proofs.forest.Climbs.{element_bears}

pub keeps_text : (text : List ℕ) → KeepsKind (with_text_data text)
keeps_text text (Text a) = record { top = refl; fragment = refl; parents_allow = refl; contents = refl }
keeps_text text _ = record { top = refl; fragment = refl; parents_allow = refl; contents = refl }

pub other_stays : (text : List ℕ) (content : NodeData) → is_text content ≡ false → with_text_data text content ≡ content
other_stays text (Text a) other = cc
other_stays text _ other = refl

unchanged : (text : List ℕ) (contents : List NodeData) (x : ℕ) → option_map_or is_text (slice_get contents x) false ≡ false → changed_at x (with_text_data text) contents ≡ contents
unchanged text [] x other = refl
unchanged text (content ∷ contents) zero other = ap (λ (c : NodeData). c ∷ contents) (other_stays text content other)
unchanged text (content ∷ contents) (suc x) other = ap (λ cs. content ∷ cs) (unchanged text contents x other)

-- a node that is no text stays
pub no_text_stays : (text : List ℕ) (x : ℕ) (forest : Forest) → is_text_at forest x ≡ false → with_content x (with_text_data text) forest ≡ forest
no_text_stays text x forest other = ap (λ (contents : List NodeData). record forest { content = contents }) (unchanged text forest.content x other)

pub bears_there : (contents : List NodeData) (x : ℕ) → option_map_or is_element (slice_get contents x) false ≡ true → option_map_or children_allowed (slice_get contents x) false ≡ true
bears_there [] x is = is
bears_there (content ∷ contents) zero is = element_bears content is
bears_there (content ∷ contents) (suc x) is = bears_there contents x is

may_append_text : (forest : Forest) (x : ℕ) (text : List ℕ) → element_at forest x ≡ true → MayAppend forest x (Text text)
may_append_text forest x text is = record {
  target_known = within is_element forest.content x is;
  open_here = bears_there forest.content x is;
  no_top = refl;
  free = λ c named. cc;
  apart = λ c named. cc;
}

-- a new text may become a child of an element
pub text_allowed : (forest : Forest) (x : ℕ) (text : List ℕ) → IsForest forest → element_at forest x ≡ true → Allowed (with_node (Text text) forest) (end_of x) (length forest.content)
text_allowed forest x text good is =
    let may = may_append_text forest x text is in
    let long = length_push forest.content (Text text) in
    let known = may.target_known in
    record {
      target_known = omega (arith, long, known);
      known = omega (arith, long);
      open_here = test-more children_allowed forest.content (Text text) x may.open_here;
      may = may_place_new (Text text) forest x good may;
    }

-- where the children of x are detached, another node may still be put there
still_allowed : (forest : Forest) (x child : ℕ) (cs : List ℕ) → Allowed forest (end_of x) child → Allowed (detach cs forest) (end_of x) child
still_allowed forest x child cs allowed = record {
  target_known = allowed.target_known;
  known = allowed.known;
  open_here = allowed.open_here;
  may = record {
    moves = allowed.may.moves;
    apart = allowed.may.apart;
    free = λ way. allowed.may.free (ways_none forest (detach cs forest) cs None (cut_parents forest cs) refl child x way);
  };
}

pub only_child_sound : (old middle new : List TreeNode) (x child : ℕ) → IsSoundArena old → Allowed (forest_of old) (end_of x) child → ChildrenRemoved old middle x → Moves middle new (end_of x) (Node child) → IsSoundArena new
only_child_sound old middle new x child sound allowed removed moved =
    let forest = forest_of old in
    let one = moved_one middle new (end_of x) child moved in
    let allowed_now = subst (λ (f : Forest). Allowed f (end_of x) child) (sym removed.made) (still_allowed forest x child (children_of forest x) allowed) in
    let good = one.kept allowed_now (removed.kept tt sound.forest) in
    still_sound old new sound one.linked good (ap (λ (f : Forest). length f.content) (one.made) ∙ ap (λ (f : Forest). length f.content) removed.made)

pub allowed_in : (forest now : Forest) (x child : ℕ) (text : List ℕ) → IsForest forest → element_at forest x ≡ true → now ≡ with_node (Text text) forest → child ≡ length forest.content → Allowed now (end_of x) child
allowed_in forest now x child text good is made number =
    subst (λ (f : Forest). Allowed f (end_of x) child) (sym made) (subst (λ (c : ℕ). Allowed (with_node (Text text) forest) (end_of x) c) (sym number) (text_allowed forest x text good is))

pub nothing_set : (forest : Forest) (x : ℕ) (text : List ℕ) → element_at forest x ≡ false → is_text_at forest x ≡ false → forest ≡ with_text_content x text forest
nothing_set forest x text element other = rw element (sym (no_text_stays text x forest other))
