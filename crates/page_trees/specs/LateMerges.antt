-- What a later tag `html` or `body` does to the state of tree construction (13.2.6.4.7): its attributes are merged into the element.
use Rattle.std.specs.Prelude.{◌≡◌, ◌++◌, ◌==◌, ◌∷◌, IfSome, List, Option, Some, [], codes, if◌then◌else◌, map, option_map, slice_get}
use Rattle.std.specs.Prelude.{slice_set}
use Rattle.std.specs.Prelude.{Bool, true, ℕ}
use Rattle.std.specs.List.{list_any}
use Rattle.standard_trees.specs.Building.{Building, with_tree}
use Rattle.standard_trees.specs.GrowingTree.{GrowingTree, is_one, merged_into, topmost, with_comment}
use Rattle.standard_trees.specs.RuleWords.{InBody, Mode as StandardMode}
use Rattle.standard_trees.specs.TreeStore.{EndOf, NodeAttr}
use Rattle.dom_nodes.specs.declared.name.Attr.{Attr}
use Rattle.page_tokens.specs.declared.attribute.TagAttr.{TagAttr}
use Rattle.page_tokens.specs.declared.token.Tag.{Tag}
use Rattle.page_trees.specs.Constructs.{Constructs, IsCurrentTag, Outcome, WithinLimits}
use Rattle.page_trees.specs.Foreign.{attr_in}
use Rattle.page_trees.specs.LateAttrs.{AddsAbsent, AreNamesOf, absent_in}
use Rattle.page_trees.specs.Modes.{is_start_kind}
use Rattle.page_trees.specs.SameNodes.{attr_for}
use Rattle.page_trees.specs.Stands.{Builds, late_names}
use Rattle.page_trees.specs.TreeState.{Late, TreeState, added_to, late_at}
use Rattle.page_trees.specs.declared.builder.Next.{Next}
use Rattle.page_trees.specs.declared.builder.TreeBuilder.{TreeBuilder}
use Rattle.page_trees.specs.declared.growing.late.LateAttrs.{LateAttrs}
use Rattle.page_trees.specs.declared.name.Name.{Name}
use Rattle.page_trees.specs.declared.stack.ElementNamespace.{ElementNamespace}
use Rattle.page_trees.specs.declared.stack.Open.{Open}

-- ---- the attributes of later tags

-- the names that are kept for element n, which has its own attributes, are those of its attributes
abbrev pub KnowsAt : List Attr → ℕ → List Late → Type 0
KnowsAt own n late = IfSome (late_at late n) (λ one. AreNamesOf one.names (own ++ one.added))

-- those of a tag's attributes that element n doesn't have are added to it, and nothing else changes
pub record AddsTo (own : List Attr) (n : ℕ) (given : List TagAttr) (old new : List Late) : Type 0 where
  pub late : Late
  pub others : (m : ℕ) → late_at new m ≡ (if n == m then Some late else late_at old m)
  pub added : late.added ≡ added_to old n ++ absent_in (own ++ added_to old n) given
  pub known : AreNamesOf late.names (own ++ late.added)

-- the same of the attributes at an index of the list
pub record AddsAt (own : List Attr) (place : ℕ) (given : List TagAttr) (late : LateAttrs) (old new : List LateAttrs) : Type 0 where
  pub after : LateAttrs
  pub adds : AddsAbsent own given late after
  pub is : new ≡ slice_set old place after

-- ---- the tree

-- the tag has these attributes
abbrev pub HasAttrs : Tag → List NodeAttr → Type 0
HasAttrs tag attrs = map (attr_in ElementNamespace.Html) tag.attrs.items ≡ map attr_for attrs

abbrev pub id_at : List Open → ℕ → Option ℕ
id_at stack place = option_map (λ o. o.id) (slice_get stack place)

-- the element, if there is one, is `html` or `body`
abbrev pub MayMerge : GrowingTree → Option ℕ → Type 0
MayMerge t n = IfSome n (λ m. is_one t late_names m ≡ true)

-- the attributes of the tag are merged into the element
abbrev pub MergesInto : Option ℕ → Tag → TreeState → TreeState → Type 0
MergesInto n tag old new =
    (attrs : List NodeAttr) → HasAttrs tag attrs → (t : GrowingTree) → MayMerge t n → Builds old t → Builds new (merged_into n attrs t)

-- the same, within the limits
abbrev pub MergesTagInto : Option ℕ → Tag → TreeBuilder → TreeBuilder → Type 0
MergesTagInto n tag old new =
    (attrs : List NodeAttr) → HasAttrs tag attrs → WithinLimits new → (b : Building) → MayMerge b.tree n → Constructs old b →
    Constructs new (with_tree b (merged_into n attrs b.tree))

-- ---- the stack

-- an HTML element with that name is open
abbrev pub is_open : List ℕ → GrowingTree → Bool
is_open name t = list_any (is_one t (name ∷ [])) t.stack

-- the outermost open element is `html`, as it is in each state in which a rule speaks of it
abbrev pub IsBelowHtml : GrowingTree → Type 0
IsBelowHtml t = is_one t (codes "html" ∷ []) (topmost t.stack) ≡ true

-- a comment is inserted as its last child
abbrev pub CommentsInHtml : List ℕ → TreeState → TreeState → Type 0
CommentsInHtml text old new =
    (t : GrowingTree) → IsBelowHtml t → Builds old t → Builds new (with_comment text (EndOf (topmost t.stack)) t)

-- ---- modes

abbrev pub HasHtml : Building → Type 0
HasHtml b = IsBelowHtml b.tree

-- there, within the limits, a tag is processed by the rules for a mode
abbrev pub ProcessesTagInHtml : StandardMode → Name → Tag → TreeBuilder → TreeBuilder → Next → Type 0
ProcessesTagInHtml mode name tag old new next =
    WithinLimits new → (b : Building) → IsCurrentTag name tag b → HasHtml b → Constructs old b → Outcome mode b new next

-- the same of a start tag `html`
abbrev pub ProcessesHtmlTag : Tag → TreeBuilder → TreeBuilder → Next → Type 0
ProcessesHtmlTag tag old new next = is_start_kind tag.kind ≡ true → ProcessesTagInHtml InBody Name.Html tag old new next
