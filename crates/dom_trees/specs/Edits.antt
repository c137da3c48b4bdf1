-- The edits of a tree, and what a call that makes an edit promises.
use Rattle.std.specs.Prelude.{ℕ, ◌≡◌, ◌<◌, ◌+◌, true, List, [], ◌∷◌, Option, Result, IfErr, IfOk, OnErr, OnOk, length}
use Rattle.std.specs.Global.{Vec}
use Rattle.dom_nodes.specs.Change.{changed}
use Rattle.dom_nodes.specs.declared.fault.EditFault.{EditFault}
use Rattle.dom_nodes.specs.declared.name.Attr.{Attr}
use Rattle.dom_nodes.specs.declared.name.NameParts.{NameParts}
use Rattle.dom_nodes.specs.declared.node_data.changing.Change.{Change}
-- The definitions of changes of a node's own data.
pub use Rattle.dom_nodes.specs.declared.node_data.changing.Change.TheVariants.{AddClass, RemoveAllAttrs, RemoveAttr, RemoveAttrs, RemoveClass, Rename, RetainAttrs, SetAttr}
-- The definition of an edit, and the edits that make a node.
pub use Rattle.dom_links.specs.ArenaEdits.{TreeEdit, making, appending}
use Rattle.dom_links.specs.Contents.{with_content}
use Rattle.dom_links.specs.Copies.{CopyCause, MayCopy, copied, copy_numbers}
use Rattle.dom_links.specs.Forest.{Forest, children_of}
use Rattle.dom_links.specs.Growth.{with_template}
use Rattle.dom_links.specs.declared.gap.Place.{Place}
use Rattle.dom_links.specs.Insertions.{MayInsert, inserted}
use Rattle.dom_links.specs.ListMoves.{AllowedList, MayReparent, MayWrap, moved_nodes, moving_id, reparented, replaced, unwrapped, wrapped}
use Rattle.dom_links.specs.Moves.{detach, moved_to}
use Rattle.dom_links.specs.Normalized.{normalized}
use Rattle.dom_links.specs.SetTexts.{with_text_content}
use Rattle.dom_links.specs.Sound.{children_allowed_at}
use Rattle.dom_links.specs.declared.gap.InsertionPoint.{InsertionPoint}
use Rattle.dom_links.specs.declared.gap.InsertionPoint.TheVariants.{Before}
use Rattle.dom_links.specs.declared.gap.MovedNodes.{MovedNodes}
use Rattle.dom_links.specs.declared.gap.MovedNodes.TheVariants.{Node}
use Rattle.dom_trees.specs.NewNodes.{element_with}
use Rattle.dom_trees.specs.Refusals.{ChangeCause, InsertCause, KnownCause, JoinCause, MoveCause, ReparentCause, SetCause, TemplateCause, WrapCause}

-- The result of an edit. On success the edit was allowed and the tree is the edited one; on an
-- error the tree is unchanged and the fault has its cause.
pub record Edits {A : Type 0} (result : Result A EditFault) (old new : Forest) (edit : TreeEdit) : Type 0 where
  pub ok : OnOk result (new ≡ edit.after old)
  pub allowed : OnOk result (edit.Allowed old)
  pub err : OnErr result (new ≡ old)
  pub cause : IfErr result (edit.Cause old)

-- The result of an edit that makes a node. It is the result of an edit, and the value is the id of
-- the new node: the number of nodes before.
pub record Makes (result : Result ℕ EditFault) (old new : Forest) (edit : TreeEdit) : Type 0 where
  pub ok : OnOk result (new ≡ edit.after old)
  pub number : IfOk result (λ made. made ≡ length old.content)
  pub allowed : OnOk result (edit.Allowed old)
  pub err : OnErr result (new ≡ old)
  pub cause : IfErr result (edit.Cause old)

-- There is a node with the id x.
abbrev pub IsKnown : ℕ → Forest → Type 0
IsKnown x forest = x < length forest.content

-- The node that is moved exists, and the move to the insertion point is allowed.
pub record MayMove (gap : InsertionPoint) (moving : MovedNodes) (forest : Forest) : Type 0 where
  pub known : moving_id moving < length forest.content
  pub list : AllowedList forest gap (moved_nodes forest moving)

-- Moving nodes to an insertion point.
abbrev pub moving_to : InsertionPoint → MovedNodes → TreeEdit
moving_to gap moving = record {
  after = λ forest. moved_to (moved_nodes forest moving) gap forest;
  Allowed = MayMove gap moving;
  Cause = MoveCause gap moving;
}

-- Detaching the node x.
abbrev pub removing : ℕ → TreeEdit
removing x = record { after = detach (x ∷ []); Allowed = IsKnown x; Cause = KnownCause x }

-- Detaching the children of x.
abbrev pub removing_children : ℕ → TreeEdit
removing_children x = record {
  after = λ forest. detach (children_of forest x) forest;
  Allowed = IsKnown x;
  Cause = KnownCause x;
}

-- The node x exists, and its children may be moved to the end of the children of p, or, without p,
-- detached.
abbrev pub MayReparentOf : ℕ → Option ℕ → Forest → Type 0
MayReparentOf x p forest = IsKnown x forest × MayReparent forest x p

-- Moving the children of x to the end of the children of p, or, without p, detaching them.
abbrev pub reparenting : ℕ → Option ℕ → TreeEdit
reparenting x p = record {
  after = reparented x p;
  Allowed = MayReparentOf x p;
  Cause = ReparentCause x p;
}

-- Moving y before x, and then detaching x.
abbrev pub replacing : ℕ → ℕ → TreeEdit
replacing x y = record {
  after = replaced x y;
  Allowed = MayMove (Before x) (Node y);
  Cause = MoveCause (Before x) (Node y);
}

-- Moving w before x, and then x to the end of the children of w.
abbrev pub wrapping : ℕ → ℕ → TreeEdit
wrapping x w = record {
  after = wrapped x w;
  Allowed = λ forest. MayWrap forest x w;
  Cause = WrapCause x w;
}

-- Replacing the parent of x by its children, if both the parent and the grandparent of x are
-- elements.
abbrev pub unwrapping : ℕ → TreeEdit
unwrapping x = record { after = unwrapped x; Allowed = IsKnown x; Cause = KnownCause x }

-- Changing the data of x.
abbrev pub changing : ℕ → Change → TreeEdit
changing x change = record {
  after = with_content x (changed change);
  Allowed = IsKnown x;
  Cause = ChangeCause x change;
}

-- Making an element as the last child of t, and then the fragment for its template contents.
abbrev pub appending_template : ℕ → NameParts → List Attr → TreeEdit
appending_template t name attrs = record {
  after = λ forest. with_template t (element_with name attrs (length forest.content + 1)) forest;
  Allowed = λ forest. IsKnown t forest × (children_allowed_at forest t ≡ true);
  Cause = TemplateCause t;
}

-- Copying nodes of a source, each as a detached node.
abbrev pub copying : Forest → List ℕ → TreeEdit
copying source ns = record {
  after = copied source ns;
  Allowed = λ forest. MayCopy source ns;
  Cause = CopyCause source ns;
}

-- The result of copying nodes: the ids of the copies are returned.
pub record Copies (result : Result (Vec ℕ) EditFault) (old new source : Forest) (ns : List ℕ) : Type 0 where
  pub edits : Edits result old new (copying source ns)
  pub numbers : IfOk result (λ made. made.items ≡ copy_numbers source ns old)

-- Copying nodes of a source, and inserting the copies at a place relative to x.
abbrev pub inserting : Forest → List ℕ → Place → ℕ → TreeEdit
inserting source ns place x = record {
  after = inserted source ns place x;
  Allowed = MayInsert source ns place x;
  Cause = InsertCause source ns place x;
}

-- Setting the text of x.
abbrev pub setting_text : ℕ → List ℕ → TreeEdit
setting_text x text = record { after = with_text_content x text; Allowed = IsKnown x; Cause = SetCause x }

-- Joining adjacent texts among the descendants of x.
abbrev pub normalizing : ℕ → TreeEdit
normalizing x = record { after = normalized x; Allowed = IsKnown x; Cause = JoinCause x }
